-- Ids that tell nothing, and live regions that tell of touched ids.
use Rattle.std.proofs.Common.{ℕ, ℤ, ◌≡◌, Bool, true, false, cond, not, ◌&&◌, ◌||◌, ◌==◌, bytes_eq, List, [], ◌∷◌, ◌++◌, Option, Some, None, map, flat_map, filter_map, refl, sym, ap, ap₂, subst, ◌∙◌, arith}
use Rattle.std.specs.Prelude.{option_to_list, is_some, filter}
use Rattle.std.specs.List.{list_any}
use Rattle.std.proofs.lemmas.Bool.{eqb-true, eq-eqb, false≢true}
use Rattle.std.proofs.lemmas.Int.{ints}
use Rattle.std.proofs.lemmas.Option.{same_Some}
use Rattle.std.proofs.lemmas.Slice.Eq.{bytes_eq-Decides}
use Rattle.ax_attrs.specs.Entry.{Entry}
use Rattle.ax_attrs.specs.Tables.{state_rows, key_rows}
use Rattle.ax_attrs.specs.declared.table.When.{When}
use Rattle.ax_base.specs.Area.{Area}
use Rattle.ax_node.specs.Look.{Look}
use Rattle.ax_node.specs.States.{has_state}
use Rattle.ax_node.specs.declared.value.Value.{Value}
use Rattle.ax_node.specs.declared.value.Value.TheVariants.{Text, Int, Flag, Node as NodeValue, Tree as TreeValue}
use Rattle.ax_trees.specs.Trees.{has, ids, IsDistinct}
use Rattle.ax_trees.specs.Nodes.{Node, node_at}
use Rattle.ax_trees.specs.Lists.{contains}
use Rattle.ax_trees.proofs.Trees.{by_go}
use Rattle.ax_trees.proofs.Lists.{contains-append}
use Rattle.ax_tree.specs.SerialRule.{all_of}
use Rattle.ax_tree.specs.Tree.{Tree}
use Rattle.ax_rules.specs.Sequences.{where_true}
use Rattle.ax_rules.specs.Looks.{attr, same_value, same_int, same_flag, same_area, same_option, same_number}
use Rattle.ax_rules.specs.Rows.{live_key, live_region_changed}
use Rattle.ax_rules.specs.Events.{changes, state_events, attr_events, differs, is_off, region_of, is_region_changed, node_events, own_events, at_node}
use Rattle.ax_order.specs.Touched.{NamesChanges}
use Rattle.ax_events.specs.Told.{node_told, told_at}
use Rattle.ax_events.specs.Regions.{is_live, is_on, node_differs, tells, where_tells, region_told}
use Rattle.ax_order.proofs.Nodes.{same_node}
use Rattle.ax_order.proofs.Filters.{contains_map, map_contains}
use Rattle.ax_events.proofs.Nodes.{any_passes, passes_any, at_some, by_ids, without_quiet, flat_ext}
use Rattle.ax_events.proofs.Climbs.{region_live, has_live}
use Rattle.ax_trees.proofs.Parents.{node_named}

-- ---- a thing is the same as itself

bytes_self : (xs : List ℕ) → bytes_eq xs xs ≡ true
bytes_self xs = (bytes_eq-Decides xs xs).1 refl

int_self : (x : ℤ) → same_int x x ≡ true
int_self x = grind (arith, ints)

flag_self : (b : Bool) → same_flag b b ≡ true
flag_self true = refl
flag_self false = refl

number_self : (n : ℕ) → (n == n) ≡ true
number_self n = eq-eqb n n refl

value_self : (v : Value) → same_value v v ≡ true
value_self (Text s) = bytes_self s
value_self (Int n) = int_self n
value_self (Flag b) = flag_self b
value_self (NodeValue n) = number_self n
value_self (TreeValue n) = number_self n

option_self : {A : Type 0} (same : A → A → Bool) → ((a : A) → same a a ≡ true) → (o : Option A) → same_option same o o ≡ true
option_self same h None = refl
option_self same h (Some a) = h a

attr_self : (o : Option Value) → same_option same_value o o ≡ true
attr_self o = option_self same_value value_self o

area_self : (a : Area) → same_area a a ≡ true
area_self a = rw (int_self a.x, int_self a.y, int_self a.w, int_self a.h) refl

flat_none : {A B : Type 0} (f : A → List B) (xs : List A) → ((x : A) → f x ≡ []) → flat_map f xs ≡ []
flat_none f [] h = refl
flat_none f (x ∷ xs) h = rw (h x, flat_none f xs h) refl

no_change : (b : Bool) (g l : Bool) → ((b && not b && g) || (b && not b && l)) ≡ false
no_change true g l = refl
no_change false g l = refl

state_self : (x : Look) (row : Entry) → state_events x x row ≡ []
unfolding state_events
state_self x row = flat_none _ (option_to_list row.event) (λ (e : ℕ × When). rw (no_change (has_state x.states row.number) _ _) refl)

attr_events_self : (x : Look) (row : Entry) → attr_events x x row ≡ []
unfolding attr_events
attr_events_self x row = rw (attr_self (attr x row.number)) refl

pub changes_self : (n : Node Look) → changes n n ≡ []
unfolding changes
changes_self n =
    rw (number_self n.known.role, flat_none (state_events n.known n.known) state_rows (state_self n.known), flat_none (attr_events n.known n.known) key_rows (attr_events_self n.known), area_self n.known.rect, bytes_self n.children)
    refl

pub differs_self : (n : Node Look) → differs n (Some n) ≡ false
differs_self n = rw (attr_self (attr n.known 1), bytes_self n.children) refl

-- ---- live regions

same_some : (o : Option ℕ) (l : ℕ) → same_option same_number o (Some l) ≡ true → o ≡ Some l
same_some None l h = absurd (false≢true h)
same_some (Some x) l h = ap Some (eqb-true x l h)

some_same : (o : Option ℕ) (l : ℕ) → o ≡ Some l → same_option same_number o (Some l) ≡ true
some_same None l h = absurd (let no : ◌≡◌ {A = Option ℕ} None (Some l) = h in cc)
some_same (Some x) l h = eq-eqb x l (same_Some x l h)

module _ (old new : Tree) (touched : List ℕ) (d : IsDistinct new.trees) (h : NamesChanges old new touched) where
  -- what differs is touched
  differing : (x : Node Look) → node_at new.trees x.id ≡ Some x → differs x (node_at old.trees x.id) ≡ true → contains touched x.id ≡ true
  differing x e t = by_go (contains touched x.id) (λ q. q) (λ q.
      absurd (false≢true (sym (differs_self x) ∙ (ap (differs x) (sym e ∙ same_node old new touched x.id h q) ∙ t))))

  told_changed : (n : Node Look) → node_at new.trees n.id ≡ Some n → is_region_changed old new n ≡ true → contains (filter_map (region_told old new) touched) n.id ≡ true
  unfolding is_region_changed
  told_changed n e c =
      let parts : (is_some (attr n.known live_key) && (not (is_off n.known) && (has old.trees n.id
      && list_any (λ (x : Node Look). same_option same_number (region_of new x.id) (Some n.id) && differs x (node_at old.trees x.id)) (all_of new.trees)))) ≡ true = c in
      let on : not (is_off n.known) ≡ true = grind (arith, parts) in
      let there : has old.trees n.id ≡ true = grind (arith, parts) in
      let some : list_any (λ (x : Node Look). same_option same_number (region_of new x.id) (Some n.id) && differs x (node_at old.trees x.id)) (all_of new.trees) ≡ true = grind (arith, parts) in
      let w = any_passes (λ (x : Node Look). same_option same_number (region_of new x.id) (Some n.id) && differs x (node_at old.trees x.id)) new.trees d some in
      let x = w.one in
      let both : (same_option same_number (region_of new x.id) (Some n.id) && differs x (node_at old.trees x.id)) ≡ true = w.does in
      let r : region_of new x.id ≡ Some n.id = same_some (region_of new x.id) n.id (grind (arith, both)) in
      let t : differs x (node_at old.trees x.id) ≡ true = grind (arith, both) in
      let tell : tells old new n.id ≡ true = ap (λ o. is_on o && has old.trees n.id) e ∙ rw (on, there) refl in
      let gives : region_told old new x.id ≡ Some n.id =
      ap (λ o. cond (node_differs o (node_at old.trees x.id)) (where_tells old new (region_of new x.id)) None) w.there
      ∙ (ap (λ b. cond b (where_tells old new (region_of new x.id)) None) t ∙ (ap (where_tells old new) r ∙ ap (λ b. cond b (Some n.id) None) tell)) in
      contains_map (region_told old new) touched x.id n.id (differing x w.there t) gives

  where_some : (o : Option ℕ) (l : ℕ) → where_tells old new o ≡ Some l → (o ≡ Some l) × (tells old new l ≡ true)
  where_some None l e = absurd (let no : ◌≡◌ {A = Option ℕ} None (Some l) = e in cc)
  where_some (Some x) l e =
      by_go (tells old new x)
      (λ q. let e' : ◌≡◌ {A = Option ℕ} (Some x) (Some l) = rw q at e in let same : x ≡ l = same_Some x l e' in (e', ap (tells old new) (sym same) ∙ q))
      (λ q. absurd (let no : ◌≡◌ {A = Option ℕ} None (Some l) = rw q at e in cc))

  changed_told : (n : Node Look) → node_at new.trees n.id ≡ Some n → contains (filter_map (region_told old new) touched) n.id ≡ true → is_region_changed old new n ≡ true
  unfolding is_region_changed
  changed_told n e c =
      let g = map_contains (region_told old new) touched n.id c in
      go g.by (node_at new.trees g.by) refl g.gives
    where
      go : (z : ℕ) (o : Option (Node Look)) → node_at new.trees z ≡ o → region_told old new z ≡ Some n.id → is_region_changed old new n ≡ true
      go z None w r = absurd (let no : ◌≡◌ {A = Option ℕ} None (Some n.id) = sym (ap (λ o. cond (node_differs o (node_at old.trees z)) (where_tells old new (region_of new z)) None) w) ∙ r in cc)
      go z (Some x) w r =
          let r' : cond (differs x (node_at old.trees z)) (where_tells old new (region_of new z)) None ≡ Some n.id = sym (ap (λ o. cond (node_differs o (node_at old.trees z)) (where_tells old new (region_of new z)) None) w) ∙ r in
          by_go (differs x (node_at old.trees z))
          (λ q. let r'' : where_tells old new (region_of new z) ≡ Some n.id = rw q at r' in
          let s = where_some (region_of new z) n.id r'' in
          let named : x.id ≡ z = node_named new.trees z x w in
          let live : has_live n ≡ true = sym (ap is_live e) ∙ region_live new z n.id s.0 in
          let tell : (not (is_off n.known) && has old.trees n.id) ≡ true = sym (ap (λ o. is_on o && has old.trees n.id) e) ∙ s.1 in
          let on : not (is_off n.known) ≡ true = grind (arith, tell) in
          let there : has old.trees n.id ≡ true = grind (arith, tell) in
          let one : (same_option same_number (region_of new x.id) (Some n.id) && differs x (node_at old.trees x.id)) ≡ true =
          subst (λ v. (same_option same_number (region_of new v) (Some n.id) && differs x (node_at old.trees v)) ≡ true) (sym named) (rw (some_same (region_of new z) n.id s.0, q) refl) in
          let some = passes_any (λ (y : Node Look). same_option same_number (region_of new y.id) (Some n.id) && differs y (node_at old.trees y.id)) new.trees z x w one in
          rw (live, on, there, some) refl)
          (λ q. absurd (let no : ◌≡◌ {A = Option ℕ} None (Some n.id) = rw q at r' in cc))

  pub region_is : (n : Node Look) → node_at new.trees n.id ≡ Some n → contains (filter_map (region_told old new) touched) n.id ≡ is_region_changed old new n
  region_is n e = go (contains (filter_map (region_told old new) touched) n.id) (is_region_changed old new n) refl refl
    where
      go : (a b : Bool) → contains (filter_map (region_told old new) touched) n.id ≡ a → is_region_changed old new n ≡ b → a ≡ b
      go true b p q = sym (changed_told n e p) ∙ q
      go false true p q = sym p ∙ told_changed n e q
      go false false p q = refl

  -- ---- all events of nodes

  module _ (regions : List ℕ) (set : ℕ → Bool) (is : regions ≡ filter_map (region_told old new) touched) (all : (z : ℕ) → set z ≡ contains regions z) where
    told_is : (z : ℕ) → told_at set old new z ≡ at_some (node_events old new) (node_at new.trees z)
    unfolding node_events
    told_is z = go (node_at new.trees z) refl
      where
        go : (o : Option (Node Look)) → node_at new.trees z ≡ o → node_told set old new o ≡ at_some (node_events old new) o
        go None e = refl
        go (Some n) e =
            let own : node_at new.trees n.id ≡ Some n = ap (node_at new.trees) (node_named new.trees z n e) ∙ e in
            let changed : set n.id ≡ is_region_changed old new n = all n.id ∙ (ap (λ ls. contains ls n.id) is ∙ region_is n own) in
            ap (λ b. map (at_node new.about.tree n.id) (own_events old new n (node_at old.trees n.id) ++ where_true b live_region_changed)) changed

    quiet : (z : ℕ) → contains (touched ++ regions) z ≡ false → told_at set old new z ≡ []
    quiet z c = go (node_at new.trees z) refl
      where
        split : (contains touched z || contains regions z) ≡ false
        split = sym (contains-append touched regions z) ∙ c

        go : (o : Option (Node Look)) → node_at new.trees z ≡ o → node_told set old new o ≡ []
        go None e = refl
        go (Some n) e =
            let named : n.id ≡ z = node_named new.trees z n e in
            let apart : contains touched z ≡ false = grind (arith, split) in
            let off : set n.id ≡ false = all n.id ∙ (ap (contains regions) named ∙ grind (arith, split)) in
            let was : node_at old.trees n.id ≡ Some n = ap (node_at old.trees) named ∙ (sym (same_node old new touched z h apart) ∙ e) in
            ap₂ (λ o b. map (at_node new.about.tree n.id) (own_events old new n o ++ where_true b live_region_changed)) was off
            ∙ ap (λ ks. map (at_node new.about.tree n.id) (ks ++ [])) (changes_self n)

    pub all_told : flat_map (told_at set old new) (filter (contains (touched ++ regions)) (ids new.trees)) ≡ flat_map (node_events old new) (all_of new.trees)
    all_told =
        without_quiet (told_at set old new) (contains (touched ++ regions)) (ids new.trees) (λ z c. quiet z)
        ∙ (flat_ext (told_at set old new) (λ z. at_some (node_events old new) (node_at new.trees z)) (ids new.trees) told_is
        ∙ by_ids (node_events old new) (node_at new.trees) new.trees d (λ z t. refl))
