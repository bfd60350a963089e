-- Indexes of nodes that name trees: what a contest gives, put into an index, makes it the index of the tree as it is now.
use Rattle.std.proofs.Common.{ℕ, ◌≡◌, Bool, true, false, cond, ◌||◌, eqb, nat_eq, List, ◌++◌, Option, Some, None, refl, sym, ap, ◌∙◌, arith}
use Rattle.std.specs.Prelude.{not, filter, filter_map}
use Rattle.std.specs.HashMap.{get}
use Rattle.std.specs.FinMap as fin
use Rattle.std.proofs.lemmas.Option.{same_Some}
use Rattle.std.proofs.lemmas.Bool.Decides.{eqb_tells}
use Rattle.std.proofs.lemmas.Bool.{false≢true, false_from_ne_true}
use Rattle.ax_trees.specs.Trees.{ids, IsTree}
use Rattle.ax_trees.specs.Lists.{contains, first_that}
use Rattle.ax_trees.proofs.Trees.{by_go}
use Rattle.ax_trees.proofs.Times.{contains-ids}
use Rattle.ax_trees.proofs.Lists.{contains-append}
use Rattle.ax_tree.specs.Tree.{Tree}
use Rattle.ax_order.specs.Touched.{NamesChanges}
use Rattle.ax_order.specs.Marks.{is_marked}
use Rattle.ax_order.proofs.Filters.{contains_map, map_contains}
use Rattle.ax_order.proofs.Walks.{up_marked}
use Rattle.ax_managers.specs.declared.index.Index.{Index}
use Rattle.ax_managers.specs.declared.contest.Contest.{Contest}
use Rattle.ax_managers.specs.Naming.{named_at, is_id}
use Rattle.ax_managers.specs.Indexes.{IsOf, IsSoundIndex, Settles}
use Rattle.ax_managers.specs.Contests.{IsContest, is_rival}
use Rattle.ax_managers.specs.Watching.{IsWatching, IsCalm}
use Rattle.ax_managers.proofs.Namings.{is_some_id, some_is_id, same_named, named_there, first_filter, first_passes, first_none, first_is, contains_filter}
use Rattle.ax_managers.proofs.Lists.{first_same, filter_passes, filter_listed}
use Rattle.ax_managers.proofs.Watching.{naming_rests, still_watching}

-- ---- a contest

module _ (i : Index) (m : Tree) (renamed : List ℕ) (c : Contest) (k : IsContest i m renamed c) (s : IsSoundIndex i) where
  -- what a node names now
  abbrev now : ℕ → Option ℕ
  now z = cond (contains renamed z) (get nat_eq c.names z) (fin.get i.named z)

  now_renamed : (z : ℕ) → contains renamed z ≡ true → now z ≡ named_at m z
  now_renamed z q = ap (λ b. cond b (get nat_eq c.names z) (fin.get i.named z)) q ∙ (k.names z ∙ ap (λ b. cond b (named_at m z) (cond (contains k.nodes z) (fin.get i.named z) None)) q)

  now_known : (z : ℕ) → contains renamed z ≡ false → now z ≡ fin.get i.named z
  now_known z q = ap (λ b. cond b (get nat_eq c.names z) (fin.get i.named z)) q

  -- a contender's name in the contest is what it names now
  contends : (z : ℕ) → contains k.nodes z ≡ true → get nat_eq c.names z ≡ now z
  contends z n = by_go (contains renamed z)
      (λ q. sym (ap (λ b. cond b (get nat_eq c.names z) (fin.get i.named z)) q))
      (λ q. k.names z ∙ (ap (λ b. cond b (named_at m z) (cond (contains k.nodes z) (fin.get i.named z) None)) q ∙ (ap (λ b. cond b (fin.get i.named z) None) n ∙ sym (now_known z q))))

  -- ---- which trees are asked for

  asked : (u : ℕ) → contains c.trees u ≡ (contains (filter_map (fin.get i.named) renamed ++ filter_map (fin.get i.named) i.rivals) u || contains (filter_map (named_at m) renamed) u)
  asked u = ap (λ ts. contains ts u) k.trees ∙ contains-append (filter_map (fin.get i.named) renamed ++ filter_map (fin.get i.named) i.rivals) (filter_map (named_at m) renamed) u

  known_asked : (u : ℕ) → contains (filter_map (fin.get i.named) renamed ++ filter_map (fin.get i.named) i.rivals) u ≡ (contains (filter_map (fin.get i.named) renamed) u || contains (filter_map (fin.get i.named) i.rivals) u)
  known_asked u = contains-append (filter_map (fin.get i.named) renamed) (filter_map (fin.get i.named) i.rivals) u

  asked_before : (z u : ℕ) → contains renamed z ≡ true → fin.get i.named z ≡ Some u → contains c.trees u ≡ true
  asked_before z u q e =
      let r : contains (filter_map (fin.get i.named) renamed) u ≡ true = contains_map (fin.get i.named) renamed z u q e in
      asked u ∙ grind (arith, known_asked u, r)

  asked_rival : (z u : ℕ) → contains i.rivals z ≡ true → fin.get i.named z ≡ Some u → contains c.trees u ≡ true
  asked_rival z u q e =
      let r : contains (filter_map (fin.get i.named) i.rivals) u ≡ true = contains_map (fin.get i.named) i.rivals z u q e in
      asked u ∙ grind (arith, known_asked u, r)

  asked_now : (z u : ℕ) → contains renamed z ≡ true → named_at m z ≡ Some u → contains c.trees u ≡ true
  asked_now z u q e =
      let r : contains (filter_map (named_at m) renamed) u ≡ true = contains_map (named_at m) renamed z u q e in
      asked u ∙ grind (arith, r)

  -- ---- which nodes contend

  renamed_contends : (z : ℕ) → contains renamed z ≡ true → contains k.nodes z ≡ true
  renamed_contends z q = k.are z ∙ grind (arith, q)

  rival_contends : (z : ℕ) → contains i.rivals z ≡ true → contains k.nodes z ≡ true
  rival_contends z q = k.are z ∙ grind (arith, q)

  host_contends : (u z : ℕ) → contains c.trees u ≡ true → fin.get i.hosts u ≡ Some z → contains k.nodes z ≡ true
  host_contends u z t e = let r : contains (filter_map (fin.get i.hosts) c.trees) z ≡ true = contains_map (fin.get i.hosts) c.trees u z t e in k.are z ∙ grind (arith, r)

  -- a contender names a tree that is asked for
  contender_asked : (z u : ℕ) → contains k.nodes z ≡ true → now z ≡ Some u → contains c.trees u ≡ true
  contender_asked z u n e =
      by_go (contains renamed z)
      (λ q. asked_now z u q (sym (now_renamed z q) ∙ e))
      (λ q. let was : fin.get i.named z ≡ Some u = sym (now_known z q) ∙ e in
      by_go (contains i.rivals z)
      (λ r. asked_rival z u r was)
      (λ r. let h : contains (filter_map (fin.get i.hosts) c.trees) z ≡ true = grind (arith, k.are z, n, q, r) in
      let g = map_contains (fin.get i.hosts) c.trees z h in
      let same : g.by ≡ u = same_Some g.by u (sym (s.hosting g.by z g.gives) ∙ was) in
      ap (contains c.trees) (sym same) ∙ g.listed))

  -- a node that names a tree that is asked for contends
  asked_contends : (z u : ℕ) → contains c.trees u ≡ true → now z ≡ Some u → contains k.nodes z ≡ true
  asked_contends z u t e =
      by_go (contains renamed z)
      (λ q. renamed_contends z q)
      (λ q. by_go (contains i.rivals z)
      (λ r. rival_contends z r)
      (λ r. host_contends u z t (s.listed z u (sym (now_known z q) ∙ e) r)))

  -- a node that names another tree is that one's host, as it was
  unasked_hosts : (z u : ℕ) → contains c.trees u ≡ false → now z ≡ Some u → fin.get i.hosts u ≡ Some z
  unasked_hosts z u t e =
      let q : contains renamed z ≡ false = false_from_ne_true (contains renamed z) (λ q. false≢true (sym t ∙ asked_now z u q (sym (now_renamed z q) ∙ e))) in
      let was : fin.get i.named z ≡ Some u = sym (now_known z q) ∙ e in
      s.listed z u was (false_from_ne_true (contains i.rivals z) (λ r. false≢true (sym t ∙ asked_rival z u r was)))

  -- and such a host names it still
  unasked_names : (z u : ℕ) → contains c.trees u ≡ false → fin.get i.hosts u ≡ Some z → now z ≡ Some u
  unasked_names z u t e =
      let was : fin.get i.named z ≡ Some u = s.hosting u z e in
      now_known z (false_from_ne_true (contains renamed z) (λ q. false≢true (sym t ∙ asked_before z u q was))) ∙ was

  module _ (j : Index) (e : Settles i j renamed c) where
    host_asked : (u : ℕ) → contains c.trees u ≡ true → fin.get j.hosts u ≡ get nat_eq c.hosts u
    host_asked u t = e.firsts u ∙ ap (λ b. cond b (get nat_eq c.hosts u) (fin.get i.hosts u)) t

    host_unasked : (u : ℕ) → contains c.trees u ≡ false → fin.get j.hosts u ≡ fin.get i.hosts u
    host_unasked u t = e.firsts u ∙ ap (λ b. cond b (get nat_eq c.hosts u) (fin.get i.hosts u)) t

    hosting : (u z : ℕ) → fin.get j.hosts u ≡ Some z → fin.get j.named z ≡ Some u
    hosting u z h = e.names z ∙ by_go (contains c.trees u)
        (λ t. let p = first_passes (λ y. is_id (get nat_eq c.names y) u) (filter (contains k.nodes) (ids m.trees)) z (sym (k.hosts u) ∙ (sym (host_asked u t) ∙ h)) in
        sym (contends z (filter_passes (contains k.nodes) (ids m.trees) z p.1)) ∙ is_some_id (get nat_eq c.names z) u p.0)
        (λ t. unasked_names z u t (sym (host_unasked u t) ∙ h))

    not_false : (b : Bool) → not b ≡ false → b ≡ true
    not_false true h = refl
    not_false false h = absurd (false≢true (sym h))

    listed : (z u : ℕ) → fin.get j.named z ≡ Some u → contains j.rivals z ≡ false → fin.get j.hosts u ≡ Some z
    listed z u h n =
        let is : now z ≡ Some u = sym (e.names z) ∙ h in
        by_go (contains k.nodes z)
        (λ q. let name : get nat_eq c.names z ≡ Some u = contends z q ∙ is in
        let no : is_rival (get nat_eq c.hosts) (get nat_eq c.names z) z ≡ false =
        false_from_ne_true (is_rival (get nat_eq c.hosts) (get nat_eq c.names z) z) (λ r.
        false≢true (sym (sym (ap (λ zs. contains zs z) (e.rivals ∙ k.rivals)) ∙ n) ∙ contains_filter (λ y. is_rival (get nat_eq c.hosts) (get nat_eq c.names y) y) k.nodes z q r)) in
        let host : is_id (get nat_eq c.hosts u) z ≡ true = not_false (is_id (get nat_eq c.hosts u) z) (sym (ap (λ o. is_rival (get nat_eq c.hosts) o z) name) ∙ no) in
        host_asked u (contender_asked z u q is) ∙ is_some_id (get nat_eq c.hosts u) z host)
        (λ q. let t : contains c.trees u ≡ false = false_from_ne_true (contains c.trees u) (λ t. false≢true (sym q ∙ asked_contends z u t is)) in
        host_unasked u t ∙ unasked_hosts z u t is)

    pub settled_sound : IsSoundIndex j
    settled_sound = record { hosting = hosting; listed = listed }

    module _ (n : Tree) (touched : List ℕ) (o : IsOf n i) (h : NamesChanges n m touched) (whole : IsTree m.trees)
        (same : (z : ℕ) → contains touched z ≡ true → contains renamed z ≡ false → fin.get i.named z ≡ named_at m z) where
      now_is : (z : ℕ) → now z ≡ named_at m z
      now_is z = by_go (contains renamed z)
          (λ q. now_renamed z q)
          (λ q. now_known z q ∙ by_go (contains touched z) (λ t. same z t q) (λ t. o.names z ∙ sym (same_named n m touched z h t)))

      abbrev test : ℕ → ℕ → Bool
      test u z = is_id (named_at m z) u

      asked_first : (u : ℕ) → contains c.trees u ≡ true → fin.get j.hosts u ≡ first_that (test u) (ids m.trees)
      asked_first u t =
          host_asked u t ∙ (k.hosts u
          ∙ (first_same (λ z. is_id (get nat_eq c.names z) u) (test u) (filter (contains k.nodes) (ids m.trees)) (λ z q. ap (λ x. is_id x u) (contends z (filter_passes (contains k.nodes) (ids m.trees) z q) ∙ now_is z))
          ∙ first_filter (test u) (contains k.nodes) (ids m.trees) (λ z q. asked_contends z u t (now_is z ∙ is_some_id (named_at m z) u q))))

      unasked_first : (u : ℕ) → contains c.trees u ≡ false → fin.get j.hosts u ≡ first_that (test u) (ids m.trees)
      unasked_first u t = host_unasked u t ∙ go (first_that (test u) (ids m.trees)) refl (fin.get i.hosts u) refl
        where
          go : (p : Option ℕ) → first_that (test u) (ids m.trees) ≡ p → (q : Option ℕ) → fin.get i.hosts u ≡ q → fin.get i.hosts u ≡ first_that (test u) (ids m.trees)
          go (Some z) w q v =
              let r = first_passes (test u) (ids m.trees) z w in
              unasked_hosts z u t (now_is z ∙ is_some_id (named_at m z) u r.0) ∙ sym w
          go None w None v = v ∙ sym w
          go None w (Some z) v =
              let named : named_at m z ≡ Some u = sym (now_is z) ∙ unasked_names z u t v in
              absurd (false≢true (sym (first_none (test u) (ids m.trees) z w (contains-ids m.trees z ∙ named_there m z u named)) ∙ some_is_id (named_at m z) u named))

      -- ---- what is watched then

      marked : (z : ℕ) → is_marked (get nat_eq j.watched) z ≡ is_marked (get nat_eq c.watched) z
      marked z = ap (λ ms. is_marked (get nat_eq ms) z) e.watched

      names_now : (z u : ℕ) → named_at m z ≡ Some u → fin.get j.named z ≡ Some u
      names_now z u a = e.names z ∙ (now_is z ∙ a)

      -- a rival, and a host that has this rival
      rival_watched : (z u : ℕ) → named_at m z ≡ Some u → contains j.rivals z ≡ true → is_marked (get nat_eq c.watched) z ≡ true
      rival_watched z u a r =
          let q : contains c.rivals z ≡ true = sym (ap (λ zs. contains zs z) e.rivals) ∙ r in k.watched z (grind (arith, q)) (named_there m z u a)

      rival_asked : (y u : ℕ) → named_at m y ≡ Some u → contains c.rivals y ≡ true → (contains k.nodes y ≡ true) × (get nat_eq c.names y ≡ Some u)
      rival_asked y u a r =
          let n : contains k.nodes y ≡ true = filter_listed (λ z. is_rival (get nat_eq c.hosts) (get nat_eq c.names z) z) k.nodes y (sym (ap (λ zs. contains zs y) k.rivals) ∙ r) in
          (n, contends y n ∙ (now_is y ∙ a))

      host_watched : (z y u : ℕ) → named_at m z ≡ Some u → named_at m y ≡ Some u → contains j.rivals y ≡ true → fin.get j.hosts u ≡ Some z → is_marked (get nat_eq c.watched) z ≡ true
      host_watched z y u a b r w =
          let q : contains c.rivals y ≡ true = sym (ap (λ zs. contains zs y) e.rivals) ∙ r in
          let s = rival_asked y u b q in
          let g : get nat_eq c.hosts u ≡ Some z = sym (host_asked u (contender_asked y u s.0 (now_is y ∙ b))) ∙ w in
          let at : contains (filter_map (get nat_eq c.hosts) (filter_map (get nat_eq c.names) c.rivals)) z ≡ true =
          contains_map (get nat_eq c.hosts) (filter_map (get nat_eq c.names) c.rivals) u z (contains_map (get nat_eq c.names) c.rivals y u q s.1) g in
          k.watched z (grind (arith, at)) (named_there m z u a)

      contested : (z y u : ℕ) → named_at m z ≡ Some u → named_at m y ≡ Some u → eqb z y ≡ false → is_marked (get nat_eq c.watched) z ≡ true
      contested z y u a b d =
          by_go (contains j.rivals z)
          (λ r. rival_watched z u a r)
          (λ r. let w : fin.get j.hosts u ≡ Some z = listed z u (names_now z u a) r in
          by_go (contains j.rivals y)
          (λ s. host_watched z y u a b s w)
          (λ s. let same : z ≡ y = same_Some z y (sym w ∙ listed y u (names_now y u b) s) in absurd (false≢true (sym d ∙ grind (arith, eqb_tells z y, same)))))

      watching : IsWatching m (is_marked (get nat_eq j.watched))
      watching = record {
        well_formed = whole;
        there = λ z a. k.marking.there z (sym (marked z) ∙ a);
        upward = λ z y a p. marked y ∙ up_marked m.trees (get nat_eq c.watched) k.marking z y (sym (marked z) ∙ a) p;
        contested = λ z y u a b d. marked z ∙ contested z y u a b d;
      }

      pub settled_of : IsOf m j
      settled_of = record {
        names = λ z. e.names z ∙ now_is z;
        firsts = λ u. by_go (contains c.trees u) (λ t. asked_first u t) (λ t. unasked_first u t) ∙ first_is m u whole.distinct;
        watching = watching;
      }

-- ---- nothing is renamed, and no watched id is touched

module _ (i : Index) (m n : Tree) (touched : List ℕ) (o : IsOf n i) (h : NamesChanges n m touched) (t : IsTree m.trees)
    (rests : IsCalm m (is_marked (get nat_eq i.watched)) touched) (same : (z : ℕ) → contains touched z ≡ true → fin.get i.named z ≡ named_at m z) where
  still : (z : ℕ) → fin.get i.named z ≡ named_at m z
  still z = by_go (contains touched z) (λ c. same z c) (λ c. o.names z ∙ sym (same_named n m touched z h c))

  still_names : (z : ℕ) → named_at n z ≡ named_at m z
  still_names z = sym (o.names z) ∙ still z

  pub still_of : IsOf m i
  still_of = record {
    names = still;
    firsts = λ u. o.firsts u ∙ naming_rests n m (is_marked (get nat_eq i.watched)) touched o.watching t h rests still_names u;
    watching = still_watching n m (is_marked (get nat_eq i.watched)) touched o.watching t h rests still_names;
  }
