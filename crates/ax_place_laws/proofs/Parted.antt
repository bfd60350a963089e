-- The list parted at a place: what stands before it, the place with all that is within it, and what stands behind.
use Rattle.std.proofs.Common.{ℕ, zero, suc, ◌≡◌, Bool, true, false, cond, List, [], ◌∷◌, ◌++◌, flat_map, filter, take, Option, Some, None, refl, sym, ap, ◌∙◌, arith, append_assoc, append-nil}
use Rattle.std.specs.Prelude.{slice_get}
use Rattle.std.specs.List.{list_any}
use Rattle.std.proofs.lemmas.List.Elements.{filter-append}
use Rattle.std.proofs.lemmas.Bool.{false≢true, false_from_ne_true}
use Rattle.ax_base.specs.declared.position.Place.{Place}
use Rattle.ax_trees.specs.Trees.{Trees, bare, tree}
use Rattle.ax_trees.proofs.Trees.{by_go}
use Rattle.ax_tree.specs.Forest.{is_place}
use Rattle.ax_rules.specs.Sequences.{until}
use Rattle.ax_rules.specs.Looks.{same_place}
use Rattle.ax_rules.specs.Stitched.{Placed, is_within}
use Rattle.ax_rules.specs.StitchedTree.{PlacedLook, tree_placed}
use Rattle.ax_stitch.proofs.Places.{same_is, same_self}
use Rattle.ax_place_laws.specs.Lists.{EachOf}
use Rattle.ax_place_laws.proofs.Each.{each_append}
use Rattle.ax_place_laws.proofs.Joined.{is_in, IsOnce, root_places, entry, kids_at, kids_none}

-- ---- within

abbrev pub Clear : Place → List Placed → Type 0
Clear q l = EachOf (λ s. is_within q s ≡ false) l

abbrev pub Inside : Place → List Placed → Type 0
Inside q l = EachOf (λ s. is_within q s ≡ true) l

pub not_same : (q p : Place) (t : Trees PlacedLook) → is_in q t ≡ true → is_in p t ≡ false → same_place q p ≡ false
not_same q p t h n = false_from_ne_true (same_place q p) (λ e. false≢true (sym n ∙ (ap (λ v. is_in v t) (sym (same_is q p e)) ∙ h)))

pub turned : (p q : Place) → same_place p q ≡ same_place q p
turned p q = by_go (same_place q p)
    (λ e. let same = same_is q p e in ap (λ v. same_place v q) (sym same) ∙ (same_self q ∙ sym e))
    (λ e. false_from_ne_true (same_place p q) (λ h. false≢true (sym e ∙ (ap (λ v. same_place q v) (same_is p q h) ∙ same_self q))) ∙ sym e)

clear_of : (q : Place) (above : List Place) (t : Trees PlacedLook) → list_any (same_place q) above ≡ false → is_in q t ≡ false → Clear q (tree_placed above t)
unfolding is_within
clear_of q above bare h n = tt
clear_of q above (tree i x k r) h n =
    let a : same_place q x.place ≡ false = false_from_ne_true (same_place q x.place) (λ e. grind (arith, e, n)) in
    let b : is_in q k ≡ false = false_from_ne_true (is_in q k) (λ e. grind (arith, e, n)) in
    let c : is_in q r ≡ false = false_from_ne_true (is_in q r) (λ e. grind (arith, e, n)) in
    ((rw (a, h) refl), each_append (λ s. is_within q s ≡ false) (tree_placed (x.place ∷ above) k) (tree_placed above r) (clear_of q (x.place ∷ above) k (rw (a, h) refl) b) (clear_of q above r h c))

pub inside_of : (q : Place) (above : List Place) (t : Trees PlacedLook) → list_any (same_place q) above ≡ true → Inside q (tree_placed above t)
unfolding is_within
inside_of q above bare h = tt
inside_of q above (tree i x k r) h =
    let deeper : list_any (same_place q) (x.place ∷ above) ≡ true = by_go (same_place q x.place) (λ e. rw e refl) (λ e. rw (e, h) refl) in
    (deeper, each_append (λ s. is_within q s ≡ true) (tree_placed (x.place ∷ above) k) (tree_placed above r) (inside_of q (x.place ∷ above) k deeper) (inside_of q above r h))

-- ---- the list at a place

pub record Parts (p : Place) (above : List Place) (t : Trees PlacedLook) : Type 0 where
  pub over : List Place
  pub look : PlacedLook
  pub inner : Trees PlacedLook
  pub at : look.place ≡ p
  pub front : List Placed
  pub back : List Placed
  pub whole : tree_placed above t ≡ front ++ ((entry over look ∷ tree_placed (look.place ∷ over) inner) ++ back)
  pub own_front : Clear p front
  pub own_back : Clear p back
  pub front_clear : (q : Place) → is_in q inner ≡ true → Clear q front
  pub back_clear : (q : Place) → is_in q inner ≡ true → Clear q back
  pub over_clear : (q : Place) → is_in q inner ≡ true → list_any (same_place q) over ≡ false
  pub once : IsOnce inner
  pub apart : is_in p inner ≡ false
  pub in_whole : (q : Place) → is_in q inner ≡ true → is_in q t ≡ true
  pub kids : kids_at p t ≡ root_places inner

-- no place of t is above it
abbrev Under : List Place → Trees PlacedLook → Type 0
Under above t = (q : Place) → is_in q t ≡ true → list_any (same_place q) above ≡ false

deeper_not : (q : Place) (above : List Place) (x : PlacedLook) (k : Trees PlacedLook) → is_in q k ≡ true → is_in x.place k ≡ false → list_any (same_place q) above ≡ false → list_any (same_place q) (x.place ∷ above) ≡ false
deeper_not q above x k h n e = let a = not_same q x.place k h n in rw (a, e) refl

into : (p : Place) (above : List Place) (i : ℕ) (x : PlacedLook) (k r : Trees PlacedLook) → IsOnce (tree i x k r) → Under above (tree i x k r) → is_in p k ≡ true → Parts p (x.place ∷ above) k → Parts p above (tree i x k r)
unfolding is_within
into p above i x k r d u h b = record {
  over = b.over;
  look = b.look;
  inner = b.inner;
  at = b.at;
  front = entry above x ∷ b.front;
  back = b.back ++ tree_placed above r;
  whole =
      let w = b.whole in
      ap (λ l. entry above x ∷ (l ++ tree_placed above r)) w ∙ ap (λ l. entry above x ∷ l)
      (append_assoc b.front ((entry b.over b.look ∷ tree_placed (b.look.place ∷ b.over) b.inner) ++ b.back) (tree_placed above r)
      ∙ ap (λ l. b.front ++ l) (append_assoc (entry b.over b.look ∷ tree_placed (b.look.place ∷ b.over) b.inner) b.back (tree_placed above r)));
  own_front = (deeper_not p above x k h d.0 (u p (grind (arith, h))), b.own_front);
  own_back = each_append (λ s. is_within p s ≡ false) b.back (tree_placed above r) b.own_back (clear_of p above r (u p (grind (arith, h))) (d.2.apart p h));
  front_clear = λ q g. let z = b.in_whole q g in (deeper_not q above x k z d.0 (u q (grind (arith, z))), b.front_clear q g);
  back_clear = λ q g. let z = b.in_whole q g in each_append (λ s. is_within q s ≡ false) b.back (tree_placed above r) (b.back_clear q g) (clear_of q above r (u q (grind (arith, z))) (d.2.apart q z));
  over_clear = b.over_clear;
  once = b.once;
  apart = b.apart;
  in_whole = λ q g. let z = b.in_whole q g in grind (arith, z);
  kids = let a = not_same p x.place k h d.0 in let n = kids_none p r (d.2.apart p h) in (rw (a, n) (append-nil (kids_at p k))) ∙ b.kids;
}

past : (p : Place) (above : List Place) (i : ℕ) (x : PlacedLook) (k r : Trees PlacedLook) → IsOnce (tree i x k r) → Under above (tree i x k r) → is_in p r ≡ true → Parts p above r → Parts p above (tree i x k r)
unfolding is_within
past p above i x k r d u h b = record {
  over = b.over;
  look = b.look;
  inner = b.inner;
  at = b.at;
  front = entry above x ∷ (tree_placed (x.place ∷ above) k ++ b.front);
  back = b.back;
  whole = let w = b.whole in ap (λ l. entry above x ∷ (tree_placed (x.place ∷ above) k ++ l)) w
      ∙ ap (λ l. entry above x ∷ l) (sym (append_assoc (tree_placed (x.place ∷ above) k) b.front ((entry b.over b.look ∷ tree_placed (b.look.place ∷ b.over) b.inner) ++ b.back)));
  own_front = let o = deeper_not p above x r h d.1 (u p (grind (arith, h))) in
      (o, each_append (λ s. is_within p s ≡ false) (tree_placed (x.place ∷ above) k) b.front (clear_of p (x.place ∷ above) k o (other p h)) b.own_front);
  own_back = b.own_back;
  front_clear = λ q g. let z = b.in_whole q g in let o = deeper_not q above x r z d.1 (u q (grind (arith, z))) in
      (o, each_append (λ s. is_within q s ≡ false) (tree_placed (x.place ∷ above) k) b.front (clear_of q (x.place ∷ above) k o (other q z)) (b.front_clear q g));
  back_clear = b.back_clear;
  over_clear = b.over_clear;
  once = b.once;
  apart = b.apart;
  in_whole = λ q g. let z = b.in_whole q g in grind (arith, z);
  kids = let a = not_same p x.place r h d.1 in let n = kids_none p k (other p h) in (rw (a, n) refl) ∙ b.kids;
}
  where
    other : (q : Place) → is_in q r ≡ true → is_in q k ≡ false
    other q g = false_from_ne_true (is_in q k) (λ e. false≢true (sym (d.2.apart q e) ∙ g))

pub parts_at : (p : Place) (above : List Place) (t : Trees PlacedLook) → IsOnce t → Under above t → is_in p t ≡ true → Parts p above t
parts_at p above bare d u h = absurd (false≢true h)
parts_at p above (tree i x k r) d u h = by_go (same_place p x.place)
    (λ e. let same : x.place ≡ p = sym (same_is p x.place e) in
    record {
      over = above;
      look = x;
      inner = k;
      at = same;
      front = [];
      back = tree_placed above r;
      whole = refl;
      own_front = tt;
      own_back = clear_of p above r (u p h) (ap (λ v. is_in v r) (sym same) ∙ d.1);
      front_clear = λ q g. tt;
      back_clear = λ q g. clear_of q above r (u q (grind (arith, g))) (d.2.apart q g);
      over_clear = λ q g. u q (grind (arith, g));
      once = d.3;
      apart = ap (λ v. is_in v k) (sym same) ∙ d.0;
      in_whole = λ q g. grind (arith, g);
      kids = rw e refl;
    })
    (λ e. by_go (is_in p k)
    (λ g. into p above i x k r d u g (parts_at p (x.place ∷ above) k d.3 (λ q z. deeper_not q above x k z d.0 (u q (grind (arith, z)))) g))
    (λ g. let z : is_in p r ≡ true = grind (arith, h, e, g) in past p above i x k r d u z (parts_at p above r d.4 (λ q y. u q (grind (arith, y))) z)))

-- ---- filters

pub filter_all : {A : Type 0} (p : A → Bool) (l : List A) → EachOf (λ s. p s ≡ true) l → filter p l ≡ l
filter_all p [] h = refl
filter_all p (x ∷ l) h = let a = h.0 in rw a (ap (λ v. x ∷ v) (filter_all p l h.1))

pub filter_none : {A : Type 0} (p : A → Bool) (l : List A) → EachOf (λ s. p s ≡ false) l → filter p l ≡ []
filter_none p [] h = refl
filter_none p (x ∷ l) h = let a = h.0 in rw a (filter_none p l h.1)

-- what is within p: the place itself, and all below it
pub within_is : (p : Place) (above : List Place) (t : Trees PlacedLook) (b : Parts p above t) → filter (is_within p) (tree_placed above t) ≡ entry b.over b.look ∷ tree_placed (b.look.place ∷ b.over) b.inner
unfolding is_within
within_is p above t b =
    let self : same_place p b.look.place ≡ true = ap (same_place p) b.at ∙ same_self p in
    let deep : list_any (same_place p) (b.look.place ∷ b.over) ≡ true = rw self refl in
    ap (filter (is_within p)) b.whole
    ∙ (filter-append (is_within p) b.front ((entry b.over b.look ∷ tree_placed (b.look.place ∷ b.over) b.inner) ++ b.back)
    ∙ (ap (λ l. l ++ filter (is_within p) ((entry b.over b.look ∷ tree_placed (b.look.place ∷ b.over) b.inner) ++ b.back)) (filter_none (is_within p) b.front b.own_front)
    ∙ (filter-append (is_within p) (entry b.over b.look ∷ tree_placed (b.look.place ∷ b.over) b.inner) b.back
    ∙ (ap (λ l. filter (is_within p) (entry b.over b.look ∷ tree_placed (b.look.place ∷ b.over) b.inner) ++ l) (filter_none (is_within p) b.back b.own_back)
    ∙ (append-nil (filter (is_within p) (entry b.over b.look ∷ tree_placed (b.look.place ∷ b.over) b.inner))
    ∙ filter_all (is_within p) (entry b.over b.look ∷ tree_placed (b.look.place ∷ b.over) b.inner) (deep, inside_of p (b.look.place ∷ b.over) b.inner deep))))))

-- within a place below p stands only what stands below p
pub inner_is : (p : Place) (above : List Place) (t : Trees PlacedLook) (b : Parts p above t) (q : Place) → is_in q b.inner ≡ true
    → filter (is_within q) (tree_placed above t) ≡ filter (is_within q) (tree_placed (b.look.place ∷ b.over) b.inner)
unfolding is_within
inner_is p above t b q h =
    let n : same_place q b.look.place ≡ false = not_same q b.look.place b.inner h (ap (λ v. is_in v b.inner) b.at ∙ b.apart) in
    let o = b.over_clear q h in
    let first : is_within q (entry b.over b.look) ≡ false = rw (n, o) refl in
    ap (filter (is_within q)) b.whole
    ∙ (filter-append (is_within q) b.front ((entry b.over b.look ∷ tree_placed (b.look.place ∷ b.over) b.inner) ++ b.back)
    ∙ (ap (λ l. l ++ filter (is_within q) ((entry b.over b.look ∷ tree_placed (b.look.place ∷ b.over) b.inner) ++ b.back)) (filter_none (is_within q) b.front (b.front_clear q h))
    ∙ (filter-append (is_within q) (entry b.over b.look ∷ tree_placed (b.look.place ∷ b.over) b.inner) b.back
    ∙ (ap (λ l. filter (is_within q) (entry b.over b.look ∷ tree_placed (b.look.place ∷ b.over) b.inner) ++ l) (filter_none (is_within q) b.back (b.back_clear q h))
    ∙ (append-nil (filter (is_within q) (entry b.over b.look ∷ tree_placed (b.look.place ∷ b.over) b.inner))
    ∙ ap (λ c. cond c (entry b.over b.look ∷ filter (is_within q) (tree_placed (b.look.place ∷ b.over) b.inner)) (filter (is_within q) (tree_placed (b.look.place ∷ b.over) b.inner))) first)))))

-- ---- the first roots

abbrev pub ends_at : Option Place → Placed → Bool
ends_at o s = is_place s.place o

pub none_ends : (o : Option Place) (l : List Placed) → EachOf (λ s. ends_at o s ≡ false) l → (r : List Placed) → until (ends_at o) (l ++ r) ≡ l ++ until (ends_at o) r
none_ends o [] h r = refl
none_ends o (x ∷ l) h r = let a = h.0 in rw a (ap (λ v. x ∷ v) (none_ends o l h.1 r))

-- what isn't within q isn't at q
not_at : (q : Place) (s : Placed) → is_within q s ≡ false → same_place s.place q ≡ false
unfolding is_within
not_at q s h = turned s.place q ∙ false_from_ne_true (same_place q s.place) (λ e. grind (arith, e, h))

pub clear_ends : (q : Place) (l : List Placed) → Clear q l → EachOf (λ s. ends_at (Some q) s ≡ false) l
clear_ends q [] h = tt
clear_ends q (s ∷ l) h = (not_at q s h.0, clear_ends q l h.1)

pub root_is_in : (k : Trees PlacedLook) (c : ℕ) (q : Place) → slice_get (root_places k) c ≡ Some q → is_in q k ≡ true
root_is_in bare c q h = absurd (cc)
root_is_in (tree i x a b) zero q h = let same : x.place ≡ q = cc in let self : same_place q x.place ≡ true = ap (same_place q) same ∙ same_self q in grind (arith, self)
root_is_in (tree i x a b) (suc c) q h = let rest = root_is_in b c q h in grind (arith, rest)

-- what is within each of the first roots, one after the other, is what stands before the next one
pub first_roots : (c : ℕ) (above : List Place) (k : Trees PlacedLook) → IsOnce k → Under above k
    → flat_map (λ q. filter (is_within q) (tree_placed above k)) (take c (root_places k)) ≡ until (ends_at (slice_get (root_places k) c)) (tree_placed above k)
unfolding is_within
first_roots zero above bare d u = refl
first_roots (suc c) above bare d u = refl
first_roots zero above (tree i x a b) d u = let self = same_self x.place in rw self refl
first_roots (suc c) above (tree i x a b) d u =
    let self = same_self x.place in
    let mine = entry above x ∷ tree_placed (x.place ∷ above) a in
    let rest = tree_placed above b in
    let deep : list_any (same_place x.place) (x.place ∷ above) ≡ true = rw self refl in
    let own : filter (is_within x.place) (mine ++ rest) ≡ mine =
    filter-append (is_within x.place) mine rest
    ∙ (ap (λ l. filter (is_within x.place) mine ++ l) (filter_none (is_within x.place) rest (clear_of x.place above b (u x.place (grind (arith, self))) d.1))
    ∙ (append-nil (filter (is_within x.place) mine) ∙ filter_all (is_within x.place) mine (deep, inside_of x.place (x.place ∷ above) a deep))) in
    ap (λ l. l ++ flat_map (λ q. filter (is_within q) (mine ++ rest)) (take c (root_places b))) own
    ∙ (ap (λ l. mine ++ l) (later b c (λ q h. skipped q h) ∙ first_roots c above b d.4 (λ q h. u q (grind (arith, h))))
    ∙ sym (none_ends (slice_get (root_places b) c) mine (unended (slice_get (root_places b) c) refl) rest))
  where
    clear_mine : (q : Place) → is_in q b ≡ true → Clear q (entry above x ∷ tree_placed (x.place ∷ above) a)
    clear_mine q h =
        let o = deeper_not q above x b h d.1 (u q (grind (arith, h))) in
        (o, clear_of q (x.place ∷ above) a o (false_from_ne_true (is_in q a) (λ e. false≢true (sym (d.2.apart q e) ∙ h))))

    skipped : (q : Place) → is_in q b ≡ true → filter (is_within q) ((entry above x ∷ tree_placed (x.place ∷ above) a) ++ tree_placed above b) ≡ filter (is_within q) (tree_placed above b)
    skipped q h =
        filter-append (is_within q) (entry above x ∷ tree_placed (x.place ∷ above) a) (tree_placed above b)
        ∙ ap (λ l. l ++ filter (is_within q) (tree_placed above b)) (filter_none (is_within q) (entry above x ∷ tree_placed (x.place ∷ above) a) (clear_mine q h))

    later : (v : Trees PlacedLook) (n : ℕ) → ((q : Place) → is_in q v ≡ true → filter (is_within q) ((entry above x ∷ tree_placed (x.place ∷ above) a) ++ tree_placed above b) ≡ filter (is_within q) (tree_placed above b))
        → flat_map (λ q. filter (is_within q) ((entry above x ∷ tree_placed (x.place ∷ above) a) ++ tree_placed above b)) (take n (root_places v)) ≡ flat_map (λ q. filter (is_within q) (tree_placed above b)) (take n (root_places v))
    later bare zero h = refl
    later bare (suc n) h = refl
    later (tree j y m r) zero h = refl
    later (tree j y m r) (suc n) h =
        let self = same_self y.place in
        let head = h y.place (grind (arith, self)) in
        let rest = later r n (λ q g. h q (grind (arith, g))) in
        ap (λ l. l ++ flat_map (λ q. filter (is_within q) ((entry above x ∷ tree_placed (x.place ∷ above) a) ++ tree_placed above b)) (take n (root_places r))) head ∙ ap (λ l. filter (is_within y.place) (tree_placed above b) ++ l) rest

    unended : (o : Option Place) → slice_get (root_places b) c ≡ o → EachOf (λ s. ends_at o s ≡ false) (entry above x ∷ tree_placed (x.place ∷ above) a)
    unended None e = never (entry above x ∷ tree_placed (x.place ∷ above) a)
      where
        never : (l : List Placed) → EachOf (λ s. ends_at None s ≡ false) l
        never [] = tt
        never (s ∷ l) = (refl, never l)
    unended (Some q) e = clear_ends q (entry above x ∷ tree_placed (x.place ∷ above) a) (clear_mine q (root_is_in b c q e))
