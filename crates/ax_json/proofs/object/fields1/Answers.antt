use Rattle.std.proofs.Common.{◌≡◌, ◌∷◌, [], option_map}
use Rattle.serde_json.specs.View.{view, members_view}
use Rattle.ax_json.proofs.Takes.{found_by, left_by, known_of, unknown_of, values_of_names}
use Rattle.ax_json.proofs.object.fields1.Goals as goal

pub returns-then-not-is_none_left-clause-known : goal.returns-then-not-is_none_left-clause-known
returns-then-not-is_none_left-clause-known c =
    let parts : members_view c.taken-a.new.members.entries ≡ left_by (c.args.first.now ∷ []) (members_view c.in_ok-members.members.entries) = cc in
    unknown_of (c.args.first.now ∷ []) (view c.args.v) (members_view c.in_ok-members.members.entries) _ _ c.in_ok-members.ensures parts (cc) c.refuse.ensures

pub returns-clause-known : goal.returns-clause-known
returns-clause-known c =
    let parts : members_view c.taken-a.new.members.entries ≡ left_by (c.args.first.now ∷ []) (members_view c.in_ok-members.members.entries) = cc in
    known_of (c.args.first.now ∷ []) (view c.args.v) (members_view c.in_ok-members.members.entries) _ c.in_ok-members.ensures parts cc

pub returns-clause-values : goal.returns-clause-values
returns-clause-values c =
    let found : (option_map view c.taken-a.result ∷ []) ≡ found_by (c.args.first.now ∷ []) (members_view c.in_ok-members.members.entries) = cc in
    values_of_names (c.args.first.now ∷ []) (view c.args.v) (members_view c.in_ok-members.members.entries) _ c.in_ok-members.ensures c.requires found
