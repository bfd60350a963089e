-- What a history says is the same without its packets' bundles.
use Rattle.std.proofs.Common.{ℕ, suc, ◌≡◌, ◌==◌, if◌then◌else◌, ◌||◌, List, [], ◌∷◌, ◌++◌, length, map, take, filter, flat_map, refl, sym, ap, ◌∙◌}
use Rattle.std.proofs.lemmas.List.{map-append, take-map}
use Rattle.ax_trees.proofs.Trees.{by_go}
use Rattle.ax_tree.specs.declared.packet.Packet.{Packet}
use Rattle.ax_tree.specs.declared.packet.HEntry.{HEntry}
use Rattle.ax_tree.specs.declared.packet.HEntry.TheVariants.{Got, Asked, Ended, Probed}
use Rattle.ax_tree.specs.declared.update.TreeUpdate.{TreeUpdate}
use Rattle.ax_tree.specs.declared.verdict.Event.{Event}
use Rattle.ax_tree.specs.Tree.{empty}
use Rattle.ax_tree.specs.Packets.{edited_all, source_at}
use Rattle.ax_rules.specs.Sequences.{until}
use Rattle.ax_rules.specs.Events.{events_of}
use Rattle.ax_rules.specs.Histories.{ends, asks, is_gone, token_of, got, verdict_at, pass_after, at_after, at_from, applied_pass}
use Rattle.ax_rules.specs.Mirrors.{mirror_of, verdict_of, standing, forest_of}
use Rattle.ax_run_rules.specs.Steps.{probe_note}
use Rattle.ax_order_laws.specs.Parts.{without_bundle, entry_without}
use Rattle.ax_order_laws.specs.Told.{entry_line}

abbrev pub bare : List HEntry → List HEntry
bare h = map entry_without h

bare_ends : (t : ℕ) (e : HEntry) → ends t (entry_without e) ≡ ends t e
bare_ends t (Got p) = refl
bare_ends t (Asked u) = refl
bare_ends t (Ended u) = refl
bare_ends t (Probed u x) = refl

bare_asks : (t : ℕ) (e : HEntry) → asks t (entry_without e) ≡ asks t e
bare_asks t (Got p) = refl
bare_asks t (Asked u) = refl
bare_asks t (Ended u) = refl
bare_asks t (Probed u x) = refl

pub bare_gone : (h : List HEntry) (t : ℕ) → is_gone (bare h) t ≡ is_gone h t
unfolding is_gone
bare_gone [] t = refl
bare_gone (e ∷ h) t = let i = bare_gone h t in let one = bare_ends t e in rw one (ap (λ b. ends t e || b) i)

bare_until : (h : List HEntry) (t : ℕ) → until (ends t) (bare h) ≡ bare (until (ends t) h)
bare_until [] t = refl
bare_until (e ∷ h) t = let i = bare_until h t in let one = bare_ends t e in rw one (by_go (ends t e) (λ q. rw q refl) (λ q. rw q (ap (λ l. entry_without e ∷ l) i)))

bare_asked : (h : List HEntry) (t : ℕ) → length (filter (asks t) (bare h)) ≡ length (filter (asks t) h)
bare_asked [] t = refl
bare_asked (e ∷ h) t = let i = bare_asked h t in let one = bare_asks t e in rw one (by_go (asks t e) (λ q. rw q (ap suc i)) (λ q. rw q i))

pub bare_token : (h : List HEntry) (t : ℕ) → token_of (bare h) t ≡ token_of h t
unfolding token_of
bare_token h t = ap (λ l. length (filter (asks t) l)) (bare_until h t) ∙ bare_asked (until (ends t) h) t

pub bare_got : (h : List HEntry) (t : ℕ) → got (bare h) t ≡ map without_bundle (got h t)
unfolding got
bare_got [] t = refl
bare_got (Got p ∷ h) t = let i = bare_got h t in by_go (p.tree == t) (λ q. rw q (ap (λ l. without_bundle p ∷ l) i)) (λ q. rw q i)
bare_got (Asked u ∷ h) t = bare_got h t
bare_got (Ended u ∷ h) t = bare_got h t
bare_got (Probed u x ∷ h) t = bare_got h t

bare_verdict : (h : List HEntry) (at : ℕ) (p : Packet) (told : List Event) → verdict_at (bare h) at (without_bundle p) told ≡ verdict_at h at p told
unfolding verdict_at
bare_verdict h at p told = let g = bare_gone h p.tree in let k = bare_token h p.tree in rw (g, k) refl

bare_after : (t : ℕ) (before : List HEntry) (at : ℕ) (e : HEntry) → at_after t (bare before) at (entry_without e) ≡ at_after t before at e
bare_after t before at (Got p) = ap (λ v. if p.tree == t then pass_after at v else at) (bare_verdict before at p [])
bare_after t before at (Asked u) = refl
bare_after t before at (Ended u) = refl
bare_after t before at (Probed u x) = refl

bare_from : (t : ℕ) (before : List HEntry) (at : ℕ) (h : List HEntry) → at_from t (bare before) at (bare h) ≡ at_from t before at h
bare_from t before at [] = refl
bare_from t before at (e ∷ h) =
    ap (λ b. at_from t b (at_after t (bare before) at (entry_without e)) (bare h)) (sym (map-append entry_without before (e ∷ [])))
    ∙ (ap (λ a. at_from t (bare (before ++ e ∷ [])) a (bare h)) (bare_after t before at e) ∙ bare_from t (before ++ e ∷ []) (at_after t before at e) h)

pub bare_pass : (h : List HEntry) (t : ℕ) → applied_pass (bare h) t ≡ applied_pass h t
unfolding applied_pass
bare_pass h t = bare_from t [] 0 h

bare_slips : (ps : List Packet) → flat_map (λ (p : Packet). p.slip) (map without_bundle ps) ≡ flat_map (λ (p : Packet). p.slip) ps
bare_slips [] = refl
bare_slips (p ∷ ps) = ap (λ l. p.slip ++ l) (bare_slips ps)

pub bare_source : (t : ℕ) (ps : List Packet) (k : ℕ) → source_at t (map without_bundle ps) k ≡ source_at t ps k
bare_source t ps k =
    ap (λ l. edited_all (flat_map (λ (p : Packet). p.slip) l) (empty t)) (take-map without_bundle k ps) ∙ ap (λ l. edited_all l (empty t)) (bare_slips (take k ps))

pub bare_mirror : (h : List HEntry) (t : ℕ) → mirror_of (bare h) t ≡ mirror_of h t
unfolding mirror_of
bare_mirror h t = ap (source_at t (got (bare h) t)) (bare_pass h t) ∙ (ap (λ l. source_at t l (applied_pass h t)) (bare_got h t) ∙ bare_source t (got h t) (applied_pass h t))

pub bare_verdict_of : (h : List HEntry) (p : Packet) → verdict_of (bare h) (without_bundle p) ≡ verdict_of h p
unfolding verdict_of
bare_verdict_of h p =
    bare_verdict h (applied_pass (bare h) p.tree) p (events_of (mirror_of (bare h) p.tree) (mirror_of (bare h ++ Got (without_bundle p) ∷ []) p.tree))
    ∙ (ap (λ a. verdict_at h a p (events_of (mirror_of (bare h) p.tree) (mirror_of (bare h ++ Got (without_bundle p) ∷ []) p.tree))) (bare_pass h p.tree)
    ∙ (ap (λ m. verdict_at h (applied_pass h p.tree) p (events_of m (mirror_of (bare h ++ Got (without_bundle p) ∷ []) p.tree))) (bare_mirror h p.tree)
    ∙ ap (λ m. verdict_at h (applied_pass h p.tree) p (events_of (mirror_of h p.tree) m))
    (ap (λ l. mirror_of l p.tree) (sym (map-append entry_without h (Got p ∷ []))) ∙ bare_mirror (h ++ Got p ∷ []) p.tree)))

bare_standing : (h : List HEntry) (t : ℕ) → standing (bare h) (mirror_of (bare h)) t ≡ standing h (mirror_of h) t
bare_standing h t = let g = bare_gone h t in let m = bare_mirror h t in rw (g, m) refl

pub bare_forest : (ts : List ℕ) (h : List HEntry) → forest_of ts (bare h) ≡ forest_of ts h
unfolding forest_of
bare_forest [] h = refl
bare_forest (t ∷ ts) h = ap (λ x. x ∷ forest_of ts (bare h)) (bare_standing h t) ∙ ap (λ l. standing h (mirror_of h) t ∷ l) (bare_forest ts h)

pub bare_probe : (h : List HEntry) (t : ℕ) (u : TreeUpdate) → probe_note (bare h) t u ≡ probe_note h t u
unfolding probe_note
bare_probe h t u = let g = bare_gone h t in let m = bare_mirror h t in rw (g, m) refl

pub bare_line : (h : List HEntry) (e : HEntry) → entry_line (bare h) (entry_without e) ≡ entry_line h e
bare_line h (Got p) = let v = bare_verdict_of h p in rw v refl
bare_line h (Asked t) = let g = bare_gone h t in let k = bare_token h t in rw (g, k) refl
bare_line h (Ended t) = let g = bare_gone h t in rw g refl
bare_line h (Probed t u) = let n = bare_probe h t u in rw n refl

-- so two histories that are the same without bundles say the same
pub same_line : (h g : List HEntry) (e f : HEntry) → bare h ≡ bare g → entry_without e ≡ entry_without f → entry_line h e ≡ entry_line g f
same_line h g e f a b = sym (bare_line h e) ∙ (ap (λ l. entry_line l (entry_without e)) a ∙ (ap (entry_line (bare g)) b ∙ bare_line g f))

pub same_forest : (ts : List ℕ) (h g : List HEntry) → bare h ≡ bare g → forest_of ts h ≡ forest_of ts g
same_forest ts h g a = sym (bare_forest ts h) ∙ (ap (forest_of ts) a ∙ bare_forest ts g)
