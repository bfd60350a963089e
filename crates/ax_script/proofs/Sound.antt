-- Each script that is read is sound.
use Rattle.std.proofs.Common.{◌≡◌, ◌≤◌, ◌+◌, ◌-◌, ◌*◌, ◌++◌, ◌&&◌, ◌||◌, ◌∙◌, ℕ, zero, suc, List, [], ◌∷◌, length, map, take, drop, position, nat_le, nat_lt, ◌==◌, codes, Bool, true, false, cond, Option, Some, None, unwrap_or, option_map, option_and_then, Result, Ok, Err, IfOk, IfSome, All, refl, sym, subst, ap, ap₂, arith}
use Rattle.std.proofs.lemmas.Bool.{leb-true}
use Rattle.std.proofs.lemmas.List.{map-append}
use Rattle.std.proofs.lemmas.List.Elements.{All-nil, All-head, All-tail, All-push}
use Rattle.std.specs.Cmp.{unsigned_tied}
use Rattle.serde_json.specs.Data.{Data, Items, no_items, item}
use Rattle.serde_json.specs.Events.{items_len}
use Rattle.serde_json.specs.Find.{get}
use Rattle.ax_attrs.specs.declared.table.Version.{Version}
use Rattle.ax_base.specs.declared.pass.Token.{Token}
use Rattle.ax_base.specs.declared.position.Place.{Place}
use Rattle.ax_trees.specs.Lists.{contains, NoneTwice}
use Rattle.ax_trees.proofs.Lists.{once_push}
use Rattle.ax_ask.specs.declared.op.Item.{Item}
use Rattle.ax_ask.specs.declared.op.Item.TheVariants.{Frame, Receive, Browser, Deliver, Reader}
use Rattle.ax_ask.specs.declared.op.BrowserOpName.{BrowserOpName}
use Rattle.ax_ask.specs.declared.op.BrowserOpName.TheVariants.{Ask, Destroy, Probe}
use Rattle.ax_ask.specs.declared.op.TimedOp.{TimedOp}
use Rattle.ax_ask.specs.Words.{browser_op_named, do_named}
use Rattle.ax_ask.specs.declared.action.Action.{Action}
use Rattle.ax_ask.specs.declared.action.DoName.{DoName}
use Rattle.ax_ask.specs.declared.action.DoName.TheVariants as does
use Rattle.ax_ask.specs.Calls.{HaveLeaves, AllNamed, tree_of}
use Rattle.ax_json.specs.declared.refusal.Fault.TheVariants.{BadName}
use Rattle.ax_json.specs.Refused.{Refusal, within}
use Rattle.ax_json.specs.Walk.{required, optional, list_of, dot, place, present, array_of, known, tag_of, tree_id, node_id, text_of, str_of}
use Rattle.ax_json.proofs.Holds.{then, then_with, inside, member_holds, option_holds, list_holds}
use Rattle.ax_forms.specs.Queries.{after_of}
use Rattle.ax_forms.specs.Updates.{update_of}
use Rattle.ax_forms.specs.Edits.{op_of}
use Rattle.ax_forms.proofs.Leaves.{ops_read}
use Rattle.ax_script.specs.declared.draft.Draft.{Draft}
use Rattle.ax_script.specs.declared.error.ScriptErr.{ScriptErr}
use Rattle.ax_script.specs.declared.script.FrameScript.{FrameScript}
use Rattle.ax_script.specs.declared.script.Script.{Script}
use Rattle.ax_script.specs.Trees.{has_tree}
use Rattle.ax_script.specs.Frames.{frame_of, frames_after, frames_of}
use Rattle.ax_script.specs.Browser.{known_tree, ask_op, destroy_op, probe_op, browser_as, browser_op, place_acted, set_value, action_as, action_of}
use Rattle.ax_script.specs.Readers.{readers_of}
use Rattle.ax_script.specs.Order.{pieces_from, digits_to, number_to, tree_named, token_named, token_after, delivery_at, delivery, reader_named, item_of, or_bad, items_after, order_of}
use Rattle.ax_script.specs.Drafts.{version_of, draft_from, draft_one, draft_two, draft_of, is_version_one}
use Rattle.ax_script.specs.Script.{json_of, from_json, drafted, finished, ops_count, with_order, script, GivesScript}
use Rattle.ax_script.specs.Sound.{HasLeaves, HasItem, IsSoundScript}

-- ---- choices

either_way : {A E : Type 0} (P : A → Type 0) (b : Bool) (r s : Result A E) → (b ≡ true → IfOk r P) → (b ≡ false → IfOk s P) → IfOk (cond b r s) P
either_way P true r s hr hs = hr refl
either_way P false r s hr hs = hs refl

some_way : {A : Type 0} (P : A → Type 0) (b : Bool) (r s : Option A) → (b ≡ true → IfSome r P) → (b ≡ false → IfSome s P) → IfSome (cond b r s) P
some_way P true r s hr hs = hr refl
some_way P false r s hr hs = hs refl

then_some : {A B : Type 0} (Q : A → Type 0) (P : B → Type 0) (f : A → Option B) (o : Option A) → IfSome o Q → ((x : A) → Q x → IfSome (f x) P) → IfSome (option_and_then f o) P
then_some Q P f None q h = tt
then_some Q P f (Some x) q h = h x q

map_some : {A B : Type 0} (Q : A → Type 0) (P : B → Type 0) (f : A → B) (o : Option A) → IfSome o Q → ((x : A) → Q x → P (f x)) → IfSome (option_map f o) P
map_some Q P f None q h = tt
map_some Q P f (Some x) q h = h x q

-- ---- the browser's operations and actions

module _ (knows : ℕ → Bool) where
  abbrev Known : ℕ → Type 0
  Known t = knows t ≡ true

  abbrev OpKnown : TimedOp → Type 0
  OpKnown o = Known (tree_of o.op)

  abbrev ActKnown : Action → Type 0
  ActKnown a = Known a.tree

  tree_read : (found : Option Data) → IfOk (known_tree knows found) Known
  unfolding known_tree
  tree_read found = then Known (required tree_id (codes "tree") found) _ (λ t. either_way Known (knows t) _ _ (λ k. k) (λ k. tt))

  ask_read : (d : Data) → IfOk (ask_op knows d) OpKnown
  unfolding ask_op
  ask_read d =
      then OpKnown (known (codes "op" ∷ codes "tree" ∷ codes "after" ∷ []) d) _ (λ _. then_with Known OpKnown (known_tree knows (get (codes "tree") d)) _ (tree_read (get (codes "tree") d)) (λ t k. then OpKnown (after_of (get (codes "after") d)) _ (λ after. k)))

  destroy_read : (d : Data) → IfOk (destroy_op knows d) OpKnown
  unfolding destroy_op
  destroy_read d =
      then OpKnown (known (codes "op" ∷ codes "tree" ∷ codes "after" ∷ []) d) _ (λ _. then_with Known OpKnown (known_tree knows (get (codes "tree") d)) _ (tree_read (get (codes "tree") d)) (λ t k. then OpKnown (after_of (get (codes "after") d)) _ (λ after. k)))

  probe_read : (v : Version) (d : Data) → IfOk (probe_op v knows d) OpKnown
  unfolding probe_op
  probe_read v d =
      then OpKnown (known (codes "op" ∷ codes "tree" ∷ codes "after" ∷ codes "update" ∷ []) d) _ (λ _. then_with Known OpKnown (known_tree knows (get (codes "tree") d)) _ (tree_read (get (codes "tree") d))
      (λ t k. then OpKnown (after_of (get (codes "after") d)) _ (λ after. then OpKnown (required (update_of v t) (codes "update") (get (codes "update") d)) _ (λ update. k))))

  browser_as_read : (v : Version) (which : BrowserOpName) (d : Data) → IfOk (browser_as v knows which d) OpKnown
  unfolding browser_as
  browser_as_read v Ask d = ask_read d
  browser_as_read v Destroy d = destroy_read d
  browser_as_read v Probe d = probe_read v d

  browser_read : (v : Version) (d : Data) → IfOk (browser_op v knows d) OpKnown
  unfolding browser_op
  browser_read v d =
      then OpKnown (tag_of (codes "op") d) _ (λ name. then OpKnown (within (dot (codes "op")) (present BadName (browser_op_named name))) _ (λ which. browser_as_read v which d))

  abbrev PlaceKnown : Place → Type 0
  PlaceKnown p = Known p.tree

  place_read : (d : Data) → IfOk (place_acted knows d) PlaceKnown
  unfolding place_acted
  place_read d =
      then PlaceKnown (known (codes "do" ∷ codes "tree" ∷ codes "node" ∷ []) d) _ (λ _. then_with Known PlaceKnown (known_tree knows (get (codes "tree") d)) _ (tree_read (get (codes "tree") d)) (λ t k. then PlaceKnown (required node_id (codes "node") (get (codes "node") d)) _ (λ n. k)))

  value_read : (d : Data) → IfOk (set_value knows d) ActKnown
  unfolding set_value
  value_read d =
      then ActKnown (known (codes "do" ∷ codes "tree" ∷ codes "node" ∷ codes "value" ∷ []) d) _ (λ _. then_with Known ActKnown (known_tree knows (get (codes "tree") d)) _ (tree_read (get (codes "tree") d))
      (λ t k. then ActKnown (required node_id (codes "node") (get (codes "node") d)) _ (λ n. then ActKnown (required text_of (codes "value") (get (codes "value") d)) _ (λ x. k))))

  action_as_read : (which : DoName) (d : Data) → IfOk (action_as knows which d) ActKnown
  unfolding action_as
  action_as_read does.Focus d = then_with PlaceKnown ActKnown (place_acted knows d) _ (place_read d) (λ p k. k)
  action_as_read does.SetValue d = value_read d
  action_as_read does.Scroll d = then_with PlaceKnown ActKnown (place_acted knows d) _ (place_read d) (λ p k. k)

  action_read : (d : Data) → IfOk (action_of knows d) ActKnown
  unfolding action_of
  action_read d =
      then ActKnown (tag_of (codes "do") d) _ (λ name. then ActKnown (within (dot (codes "do")) (present BadName (do_named name))) _ (λ which. action_as_read which d))

-- ---- frames

abbrev trees : List FrameScript → List ℕ
trees fs = map (λ (f : FrameScript). f.tree) fs

has_contains : (fs : List FrameScript) (t : ℕ) → has_tree fs t ≡ contains (trees fs) t
unfolding has_tree
has_contains [] t = refl
has_contains (f ∷ fs) t = ap₂ (λ a b. a || b) (unsigned_tied f.tree t) (has_contains fs t)

abbrev Fresh : (ℕ → Bool) → FrameScript → Type 0
Fresh taken f = HasLeaves f × (taken f.tree ≡ false)

frame_read : (v : Version) (taken : ℕ → Bool) (d : Data) → IfOk (frame_of v taken d) (Fresh taken)
unfolding frame_of
frame_read v taken d =
    then (Fresh taken) (known (codes "tree" ∷ codes "ops" ∷ []) d) _ (λ _. then (Fresh taken) (required tree_id (codes "tree") (get (codes "tree") d)) _
    (λ t. either_way (Fresh taken) (taken t) _ _ (λ k. tt) (λ k. then_with HaveLeaves (Fresh taken) (required (list_of (op_of v)) (codes "ops") (get (codes "ops") d)) _ (member_holds HaveLeaves (list_of (op_of v)) (codes "ops") (get (codes "ops") d) (ops_read v)) (λ ops leaves. (leaves, k)))))

record FramesApart (fs : List FrameScript) : Type 0 where
  pub once : NoneTwice (trees fs)
  pub leaves : All HasLeaves fs

apart_more : (fs : List FrameScript) (f : FrameScript) → FramesApart fs → Fresh (has_tree fs) f → FramesApart (fs ++ f ∷ [])
apart_more fs f a h = record {
  once = subst NoneTwice (sym (map-append (λ (g : FrameScript). g.tree) fs (f ∷ []))) (once_push (trees fs) f.tree a.once (sym (has_contains fs f.tree) ∙ h.1));
  leaves = All-push HasLeaves fs f a.leaves h.0;
}

frames_apart : (v : Version) (earlier : List FrameScript) (items : Items) → FramesApart earlier → IfOk (frames_after v earlier items) FramesApart
frames_apart v earlier no_items a = a
frames_apart v earlier (item d ds) a =
    then_with (Fresh (has_tree earlier)) FramesApart (within (place (length earlier)) (frame_of v (has_tree earlier) d)) _ (inside (Fresh (has_tree earlier)) (place (length earlier)) (frame_of v (has_tree earlier) d) (frame_read v (has_tree earlier) d)) (λ f h. frames_apart v (earlier ++ f ∷ []) ds (apart_more earlier f a h))

longer : {A : Type 0} (n : ℕ) (xs : List A) (x : A) → n ≤ length xs → n ≤ length (xs ++ x ∷ [])
longer n [] x h = omega (arith, h)
longer zero (y ∷ xs) x h = omega arith
longer (suc n) (y ∷ xs) x h = omega (arith, longer n xs x (omega (arith, h)))

abbrev AtLeast : ℕ → List FrameScript → Type 0
AtLeast n fs = n ≤ length fs

frames_grow : (v : Version) (n : ℕ) (earlier : List FrameScript) (items : Items) → n ≤ length earlier → IfOk (frames_after v earlier items) (AtLeast n)
frames_grow v n earlier no_items h = h
frames_grow v n earlier (item d ds) h = then (AtLeast n) (within (place (length earlier)) (frame_of v (has_tree earlier) d)) _ (λ f. frames_grow v n (earlier ++ f ∷ []) ds (longer n earlier f h))

frames_some : (v : Version) (items : Items) → 1 ≤ items_len items → IfOk (frames_after v [] items) (AtLeast 1)
frames_some v no_items h = absurd (omega (arith, h))
frames_some v (item d ds) h = then (AtLeast 1) (within (place 0) (frame_of v (has_tree []) d)) _ (λ f. frames_grow v 1 (f ∷ []) ds (omega arith))

both_ok : {A E : Type 0} (P Q : A → Type 0) (r : Result A E) → IfOk r P → IfOk r Q → IfOk r (λ x. P x × Q x)
both_ok P Q (Ok x) p q = (p, q)
both_ok P Q (Err e) p q = tt

abbrev Framed : List FrameScript → Type 0
Framed fs = AtLeast 1 fs × FramesApart fs

and_left : (a b : Bool) → (a && b) ≡ true → a ≡ true
and_left true b h = refl
and_left false b h = h

none_apart : FramesApart []
none_apart = record { once = tt; leaves = All-nil HasLeaves }

frames_read : (v : Version) (d : Data) → IfOk (frames_of v d) Framed
unfolding frames_of
frames_read v d =
    then Framed (array_of d) _ (λ items. either_way Framed (nat_le 1 (items_len items) && nat_le (items_len items) 1000) _ _ (λ k. both_ok (AtLeast 1) FramesApart (frames_after v [] items) (frames_some v items (leb-true 1 (items_len items) (and_left (nat_le 1 (items_len items)) _ k))) (frames_apart v [] items none_apart)) (λ k. tt))

-- ---- drafts

named_all : (fs : List FrameScript) (ops : List TimedOp) → All (OpKnown (has_tree fs)) ops → AllNamed (trees fs) ops
named_all fs [] h = tt
named_all fs (o ∷ ops) h =
    (sym (has_contains fs (tree_of o.op)) ∙ All-head (OpKnown (has_tree fs)) o ops h, named_all fs ops (All-tail (OpKnown (has_tree fs)) o ops h))

or_none : {A : Type 0} (P : A → Type 0) (o : Option (List A)) → IfSome o (λ xs. All P xs) → All P (unwrap_or o [])
or_none P None h = All-nil P
or_none P (Some xs) h = h

record DraftSound (d : Draft) : Type 0 where
  pub framed : Framed d.frames
  pub named : AllNamed (trees d.frames) d.browser
  pub acted : All (ActKnown (has_tree d.frames)) d.actions

draft_from_read : (version_at frames_at browser_at readers_at order_at actions_at : Option Data) → IfOk (draft_from version_at frames_at browser_at readers_at order_at actions_at) DraftSound
unfolding draft_from
draft_from_read version_at frames_at browser_at readers_at order_at actions_at =
    then DraftSound (required version_of (codes "version") version_at) _ (λ v. then_with Framed DraftSound (required (frames_of v) (codes "frames") frames_at) _ (member_holds Framed (frames_of v) (codes "frames") frames_at (frames_read v))
    (λ frames framed. let knows = has_tree frames in then_with (λ o. IfSome o (λ xs. All (OpKnown knows) xs)) DraftSound (optional (list_of (browser_op v knows)) (codes "browser") browser_at) _ (option_holds (λ xs. All (OpKnown knows) xs) (list_of (browser_op v knows)) (codes "browser") browser_at (λ d. list_holds (OpKnown knows) (browser_op v knows) d (browser_read knows v)))
    (λ browser named. then DraftSound (optional (readers_of v) (codes "readers") readers_at) _ (λ readers. then DraftSound (optional str_of (codes "order") order_at) _ (λ order. then_with (λ o. IfSome o (λ xs. All (ActKnown knows) xs)) DraftSound (optional (list_of (action_of knows)) (codes "actions") actions_at) _ (option_holds (λ xs. All (ActKnown knows) xs) (list_of (action_of knows)) (codes "actions") actions_at (λ d. list_holds (ActKnown knows) (action_of knows) d (action_read knows)))
    (λ actions acted. record { framed = framed; named = named_all frames (unwrap_or browser []) (or_none (OpKnown knows) browser named); acted = or_none (ActKnown knows) actions acted }))))))

draft_one_read : (d : Data) → IfOk (draft_one d) DraftSound
unfolding draft_one
draft_one_read d =
    then DraftSound (known (codes "version" ∷ codes "frames" ∷ codes "browser" ∷ codes "readers" ∷ codes "order" ∷ []) d) _
    (λ _. draft_from_read (get (codes "version") d) (get (codes "frames") d) (get (codes "browser") d) (get (codes "readers") d) (get (codes "order") d) None)

draft_two_read : (d : Data) → IfOk (draft_two d) DraftSound
unfolding draft_two
draft_two_read d =
    then DraftSound (known (codes "version" ∷ codes "frames" ∷ codes "browser" ∷ codes "readers" ∷ codes "order" ∷ codes "actions" ∷ []) d) _
    (λ _. draft_from_read (get (codes "version") d) (get (codes "frames") d) (get (codes "browser") d) (get (codes "readers") d) (get (codes "order") d) (get (codes "actions") d))

draft_read : (d : Data) → IfOk (draft_of d) DraftSound
unfolding draft_of
draft_read d = either_way DraftSound (is_version_one d) (draft_one d) (draft_two d) (λ k. draft_one_read d) (λ k. draft_two_read d)

-- ---- the order

digits_above : (high n : ℕ) (ds : List ℕ) → IfSome (digits_to high n ds) (λ m. n ≤ m)
digits_above high n [] = some_way (λ m. n ≤ m) (nat_le n high) (Some n) None (λ k. omega arith) (λ k. tt)
digits_above high n (d ∷ ds) = some_way (λ m. n ≤ m) _ _ None (λ k. above_too (digits_to high (n * 10 + (d - 48)) ds) (digits_above high (n * 10 + (d - 48)) ds)) (λ k. tt)
  where
    above_too : (o : Option ℕ) → IfSome o (λ m. n * 10 + (d - 48) ≤ m) → IfSome o (λ m. n ≤ m)
    above_too None h = tt
    above_too (Some m) h = omega (arith, h)

number_above : (high : ℕ) (ds : List ℕ) → IfSome (number_to high ds) (λ m. 1 ≤ m)
number_above high [] = tt
number_above high (d ∷ ds) = some_way (λ m. 1 ≤ m) (nat_le 49 d && nat_le d 57) _ None (λ k. above_too (leb-true 49 d (and_left (nat_le 49 d) _ k)) (digits_to high (d - 48) ds) (digits_above high (d - 48) ds)) (λ k. tt)
  where
    above_too : 49 ≤ d → (o : Option ℕ) → IfSome o (λ m. d - 48 ≤ m) → IfSome o (λ m. 1 ≤ m)
    above_too l None h = tt
    above_too l (Some m) h = omega (arith, h, l)

abbrev ItemFits : (ℕ → Bool) → ℕ → Item → Type 0
ItemFits knows readers (Frame tree) = knows tree ≡ true
ItemFits knows readers (Receive tree) = knows tree ≡ true
ItemFits knows readers Browser = Unit {0}
ItemFits knows readers (Deliver tree token) = knows tree ≡ true
ItemFits knows readers (Reader k) = (1 ≤ k) × (k ≤ readers)

named_known : (knows : ℕ → Bool) (digits : List ℕ) → IfSome (tree_named knows digits) (λ t. knows t ≡ true)
named_known knows digits = then_some (λ t. 1 ≤ t) (λ t. knows t ≡ true) (λ t. cond (knows t) (Some t) None) (number_to 1000 digits) (number_above 1000 digits) (λ t q. some_way (λ t. knows t ≡ true) (knows t) (Some t) None (λ k. k) (λ k. tt))

any_some : {A : Type 0} (o : Option A) → IfSome o (λ _. Unit {0})
any_some None = tt
any_some (Some x) = tt

after_fits : (knows : ℕ → Bool) (readers t : ℕ) (rest : List ℕ) → knows t ≡ true → IfSome (token_after t rest) (ItemFits knows readers)
after_fits knows readers t [] k = tt
after_fits knows readers t (c ∷ digits) k = map_some (λ _. Unit {0}) (ItemFits knows readers) (λ (n : Token). Deliver t n) (token_named digits) (any_some (token_named digits)) (λ n u. k)

at_fits : (knows : ℕ → Bool) (readers : ℕ) (text : List ℕ) (found : Option ℕ) → IfSome (delivery_at knows text found) (ItemFits knows readers)
at_fits knows readers text None = tt
at_fits knows readers text (Some i) = then_some (λ t. knows t ≡ true) (ItemFits knows readers) (λ t. token_after t (drop i text)) (tree_named knows (take i text)) (named_known knows (take i text)) (λ t k. after_fits knows readers t (drop i text) k)

reader_fits : (knows : ℕ → Bool) (readers : ℕ) (digits : List ℕ) → IfSome (reader_named readers digits) (ItemFits knows readers)
reader_fits knows readers digits =
    then_some (λ k. 1 ≤ k) (ItemFits knows readers) (λ k. cond (nat_le k readers) (Some (Reader k)) None) (number_to 16 digits) (number_above 16 digits) (λ k l. some_way (ItemFits knows readers) (nat_le k readers) (Some (Reader k)) None (λ e. (l, leb-true k readers e)) (λ e. tt))

item_fits : (knows : ℕ → Bool) (readers : ℕ) (word : List ℕ) → IfSome (item_of knows readers word) (ItemFits knows readers)
item_fits knows readers [] = tt
item_fits knows readers (c ∷ text) =
    let P = ItemFits knows readers in
    some_way P (c == 98) _ _ (λ k. some_way P (length text == 0) (Some Browser) None (λ e. tt) (λ e. tt))
    (λ k. some_way P (c == 102) _ _ (λ e. map_some (λ t. knows t ≡ true) P (λ t. Frame t) (tree_named knows text) (named_known knows text) (λ t q. q))
    (λ k. some_way P (c == 97) _ _ (λ e. map_some (λ t. knows t ≡ true) P (λ t. Receive t) (tree_named knows text) (named_known knows text) (λ t q. q))
    (λ k. some_way P (c == 100) (delivery knows text) _ (λ e. at_fits knows readers text (position (λ x. x == 58) text))
    (λ k. some_way P (c == 114) (reader_named readers text) None (λ e. reader_fits knows readers text) (λ e. tt)))))

abbrev AllFit : (ℕ → Bool) → ℕ → List Item → Type 0
AllFit knows readers items = All (ItemFits knows readers) items

or_bad_fits : (P : Item → Type 0) (Q : List Item → Type 0) (o : Option Item) (i : ℕ) (next : Item → Result (List Item) ℕ) → IfSome o P → ((x : Item) → P x → IfOk (next x) Q) → IfOk (or_bad o i next) Q
or_bad_fits P Q None i next fits h = tt
or_bad_fits P Q (Some x) i next fits h = h x fits

items_fit : (knows : ℕ → Bool) (readers : ℕ) (found : List Item) (words : List (List ℕ)) → AllFit knows readers found → IfOk (items_after knows readers found words) (AllFit knows readers)
items_fit knows readers found [] h = h
items_fit knows readers found (word ∷ words) h =
    or_bad_fits (ItemFits knows readers) (AllFit knows readers) (item_of knows readers word) (length found + 1) _ (item_fits knows readers word) (λ x fits. items_fit knows readers (found ++ x ∷ []) words (All-push (ItemFits knows readers) found x h fits))

order_fits : (knows : ℕ → Bool) (readers : ℕ) (text : List ℕ) → IfOk (order_of knows readers text) (AllFit knows readers)
order_fits knows readers [] = All-nil (ItemFits knows readers)
order_fits knows readers (c ∷ cs) = items_fit knows readers [] (pieces_from [] (c ∷ cs)) (All-nil (ItemFits knows readers))

-- ---- scripts

all_of : {A : Type 0} (P Q : A → Type 0) → ((x : A) → P x → Q x) → (xs : List A) → All P xs → All Q xs
all_of P Q f xs h k d l = f _ (h k d l)

fits_item : (s : Script) (i : Item) → ItemFits (has_tree s.frames) (length s.readers) i → HasItem s i
fits_item s (Frame t) h = sym (has_contains s.frames t) ∙ h
fits_item s (Receive t) h = sym (has_contains s.frames t) ∙ h
fits_item s Browser h = tt
fits_item s (Deliver t n) h = sym (has_contains s.frames t) ∙ h
fits_item s (Reader k) h = h

order_sound : (draft : Draft) (order : Result (List Item) ℕ) → DraftSound draft → IfOk order (AllFit (has_tree draft.frames) (length draft.readers)) → IfOk (with_order draft order) IsSoundScript
order_sound draft (Err i) d h = tt
order_sound draft (Ok items) d h = record {
  framed = d.framed.0;
  apart = d.framed.1.once;
  leaves = d.framed.1.leaves;
  named = d.named;
  acted = all_of (ActKnown (has_tree draft.frames)) _ (λ a k. sym (has_contains draft.frames a.tree) ∙ k) draft.actions d.acted;
  ordered = all_of (ItemFits (has_tree draft.frames) (length draft.readers)) _ (fits_item (record { version = draft.version; frames = draft.frames; browser = draft.browser; readers = draft.readers; order = items; actions = draft.actions })) items h;
}

finished_sound : (draft : Draft) → DraftSound draft → IfOk (finished draft) IsSoundScript
unfolding finished
finished_sound draft d = either_way IsSoundScript (nat_lt 1000000 (ops_count draft)) _ _ (λ k. tt) (λ k. order_sound draft _ d (order_fits (has_tree draft.frames) (length draft.readers) draft.order))

drafted_sound : (r : Result Draft Refusal) → IfOk r DraftSound → IfOk (drafted r) IsSoundScript
drafted_sound (Ok draft) h = finished_sound draft h
drafted_sound (Err e) h = tt

json_sound : (found : Option Data) → IfOk (from_json found) IsSoundScript
json_sound None = tt
json_sound (Some d) = drafted_sound (draft_of d) (draft_read d)

bytes_sound : (bytes : List ℕ) → IfOk (script bytes) IsSoundScript
unfolding script
bytes_sound bytes = either_way IsSoundScript (nat_lt 67108864 (length bytes)) _ (from_json (json_of bytes)) (λ k. tt) (λ k. json_sound (json_of bytes))

pub given_is_sound : (bytes : List ℕ) (r : Result Script ScriptErr) → GivesScript r (script bytes) → IfOk r IsSoundScript
given_is_sound bytes (Ok s) h = rw h at (bytes_sound bytes)
given_is_sound bytes (Err e) h = tt
