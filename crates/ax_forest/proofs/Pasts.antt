-- What the forest of a history shows of a tree, and what an entry that isn't a packet makes of what is kept.
use Rattle.std.proofs.Common.{ℕ, ◌+◌, ◌≡◌, Bool, true, false, cond, ◌||◌, ◌==◌, nat_eq, List, [], ◌∷◌, ◌++◌, length, filter, map, Option, Some, None, refl, sym, ap, ap₂, subst, ◌∙◌, arith}
use Rattle.std.specs.Prelude.{IsSome}
use Rattle.std.proofs.lemmas.Bool.{eqb-true, false≢true}
use Rattle.ax_trees.proofs.Trees.{by_go}
use Rattle.ax_trees.specs.Lists.{contains}
use Rattle.ax_base.specs.declared.pass.Token.{Token}
use Rattle.ax_tree.specs.declared.packet.HEntry.{HEntry}
use Rattle.ax_tree.specs.declared.packet.HEntry.TheVariants.{Asked, Ended, Probed}
use Rattle.ax_tree.specs.declared.update.TreeUpdate.{TreeUpdate}
use Rattle.ax_tree.specs.Tree.{Tree}
use Rattle.ax_tree.specs.Forest.{Forest, live_tree}
use Rattle.ax_rules.specs.Sequences.{until}
use Rattle.ax_rules.specs.Histories.{is_gone, token_of, applied_pass, ends, asks}
use Rattle.ax_rules.specs.Mirrors.{built_of, built_forest_of, standing}
use Rattle.ax_rules.proofs.Appends.{is_gone-append, applied_pass-append, built-append}
use Rattle.ax_rules.proofs.Tokens.{token-append}
use Rattle.ax_forest_laws.proofs.Forests.{each_entry_retells, no_entry_is_empty}
use Rattle.ax_managers.specs.Telling.{dropped, empty_forest}
use Rattle.ax_forest.specs.declared.tally.Tally.{Tally}
use Rattle.ax_forest.specs.ById.{at_id, HasPlace, Puts, IsFilled}
use Rattle.ax_forest.specs.Past.{Past}
use Rattle.ax_forest.proofs.ByIds.{place_at}
use Rattle.ax_forest.specs.Shown.{ids_of}
use Rattle.ax_forest.specs.Tallied.{IsTallyOf, IsTallied, IsPast, first_tally}

-- ---- the forest of a history

ids_at : (ts : List ℕ) (h : List HEntry) → ids_of (map (standing h (built_of h)) ts) ≡ ts
ids_at [] h = refl
ids_at (t ∷ ts) h = ap (λ ys. t ∷ ys) (ids_at ts h)

pub ids_built : (ts : List ℕ) (h : List HEntry) → ids_of (built_forest_of ts h) ≡ ts
unfolding built_forest_of
ids_built ts h = ids_at ts h

pub past_ids : (f : Forest) (ys : List (Option Tally)) (ts : List ℕ) (h : List HEntry) → IsPast f ys ts h → ids_of f ≡ ts
past_ids f ys ts h i = ap ids_of i.stands ∙ ids_built ts h

abbrev pub past_of : List ℕ → List HEntry → Past
past_of ts h = record { trees = ts; history = h }

-- the trees of a forest are those of its past
pub past_again : (f : Forest) (ys : List (Option Tally)) (ts : List ℕ) (h g : List HEntry) → IsPast f ys ts h → g ≡ h → IsPast f ys (ids_of f) g
past_again f ys ts h g i e = subst (λ (l : List HEntry). IsPast f ys (ids_of f) l) (sym e) (subst (λ (l : List ℕ). IsPast f ys l h) (sym (past_ids f ys ts h i)) i)

pub past_shown : (f : Forest) (ys : List (Option Tally)) (ts : List ℕ) (h g : List HEntry) → IsPast f ys ts h → g ≡ h → past_of (ids_of f) g ≡ past_of ts h
past_shown f ys ts h g i e = ap₂ past_of (past_ids f ys ts h i) e

pub past_same : (f g : Forest) (ys zs : List (Option Tally)) (h k : List HEntry) → (g ≡ f) × (zs ≡ ys) × (k ≡ h) → IsPast f ys (ids_of f) h → IsPast g zs (ids_of g) k
past_same f g ys zs h k e i =
    subst (λ (l : List HEntry). IsPast g zs (ids_of g) l) (sym e.2)
    (subst (λ (l : List (Option Tally)). IsPast g l (ids_of g) h) (sym e.1) (subst (λ (x : Forest). IsPast x ys (ids_of x) h) (sym e.0) i))

-- a past with one more entry
abbrev pub and_then : HEntry → Past → Past
and_then e p = past_of p.trees (p.history ++ e ∷ [])

tree_at : (ts : List ℕ) (h : List HEntry) (t : ℕ) → contains ts t ≡ true → live_tree (map (standing h (built_of h)) ts) t ≡ cond (is_gone h t) None (Some (built_of h t))
tree_at [] h t c = absurd (false≢true c)
tree_at (x ∷ ts) h t c =
    by_go (x == t)
    (λ q. rw q (ap (λ (z : ℕ). cond (is_gone h z) None (Some (built_of h z))) (eqb-true x t q)))
    (λ q. rw q (tree_at ts h t (ap (λ b. b || contains ts t) (sym q) ∙ c)))

-- a tree of the forest: none where it has ended, else the built one
pub tree_built : (ts : List ℕ) (h : List HEntry) (t : ℕ) → contains ts t ≡ true → live_tree (built_forest_of ts h) t ≡ cond (is_gone h t) None (Some (built_of h t))
unfolding built_forest_of
tree_built ts h t c = tree_at ts h t c

pub tally_place : (f : Forest) (ys : List (Option Tally)) (ts : List ℕ) (h : List HEntry) → IsPast f ys ts h → (t : ℕ) → contains ts t ≡ true → HasPlace ys t
tally_place f ys ts h i t c = go (at_id ys t) refl (i.tallied t)
  where
    go : (o : Option Tally) → at_id ys t ≡ o → IsTallied ts h t o → HasPlace ys t
    go None e k = absurd (false≢true (sym k ∙ c))
    go (Some y) e k = place_at ys t y e

module _ (f : Forest) (ys : List (Option Tally)) (ts : List ℕ) (h : List HEntry) (i : IsPast f ys ts h) (t : ℕ) (c : contains ts t ≡ true) where
  pub past_tree : live_tree f t ≡ cond (is_gone h t) None (Some (built_of h t))
  past_tree = ap (λ (g : Forest). live_tree g t) i.stands ∙ tree_built ts h t c

  pub past_live : (m : Tree) → live_tree f t ≡ Some m → (is_gone h t ≡ false) × (m ≡ built_of h t)
  past_live m e = go (is_gone h t) refl (sym e ∙ past_tree)
    where
      go : (b : Bool) → is_gone h t ≡ b → Some m ≡ cond (is_gone h t) None (Some (built_of h t)) → (is_gone h t ≡ false) × (m ≡ built_of h t)
      go true g s = absurd (let no : Some m ≡ None = s ∙ ap (λ d. cond d None (Some (built_of h t))) g in let bad : ⊥ = cc in bad)
      go false g s = (g, (let is : Some m ≡ Some (built_of h t) = s ∙ ap (λ d. cond d None (Some (built_of h t))) g in let same : m ≡ built_of h t = cc in same))

  pub past_gone : live_tree f t ≡ None → is_gone h t ≡ true
  past_gone e = go (is_gone h t) refl (sym e ∙ past_tree)
    where
      go : (b : Bool) → is_gone h t ≡ b → None ≡ cond (is_gone h t) None (Some (built_of h t)) → is_gone h t ≡ true
      go true g s = g
      go false g s = absurd (let no : None ≡ Some (built_of h t) = s ∙ ap (λ d. cond d None (Some (built_of h t))) g in let bad : ⊥ = cc in bad)

  pub past_some : IsSome (live_tree f t) → is_gone h t ≡ false
  past_some s = go (is_gone h t) refl (subst (λ (o : Option Tree). IsSome o) past_tree s)
    where
      go : (b : Bool) → is_gone h t ≡ b → IsSome (cond (is_gone h t) None (Some (built_of h t))) → is_gone h t ≡ false
      go true g k = absurd (false≢true (subst (λ d. IsSome (cond d None (Some (built_of h t)))) g k))
      go false g k = g

  pub past_none : (IsSome (live_tree f t) → ⊥) → is_gone h t ≡ true
  past_none n = go (is_gone h t) refl
    where
      go : (b : Bool) → is_gone h t ≡ b → is_gone h t ≡ true
      go true g = g
      go false g = absurd (n (subst (λ (o : Option Tree). IsSome o) (sym (past_tree ∙ ap (λ d. cond d None (Some (built_of h t))) g)) refl))

-- ---- before the first entry

first_is : (t : ℕ) → IsTallyOf [] t (first_tally t)
unfolding token_of applied_pass
first_is t = record { token = refl; at = refl }

none_tallied : (ts : List ℕ) (t : ℕ) (b : Bool) → contains ts t ≡ b → IsTallied ts [] t (cond b (Some (first_tally t)) None)
none_tallied ts t true c = (c, first_is t)
none_tallied ts t false c = c

pub past_first : (f : Forest) (ys : List (Option Tally)) (ts : List ℕ) → f ≡ empty_forest ts → IsFilled first_tally ts ys → IsPast f ys ts []
past_first f ys ts e i = record {
  stands = e ∙ sym (no_entry_is_empty ts);
  tallied = λ t. subst (λ (o : Option Tally). IsTallied ts [] t o) (sym (i.values t)) (none_tallied ts t (contains ts t) refl);
}

-- ---- an entry that says nothing of a tree

pub or_false : (b : Bool) → (b || false) ≡ b
or_false true = refl
or_false false = refl

pub same_either : (b : Bool) (n : ℕ) → cond b n (n + 0) ≡ n
same_either true n = refl
same_either false n = omega arith

pub record Unsaid (h : List HEntry) (e : HEntry) (t : ℕ) : Type 0 where
  pub gone : is_gone (h ++ e ∷ []) t ≡ is_gone h t
  pub token : token_of (h ++ e ∷ []) t ≡ token_of h t
  pub at : applied_pass (h ++ e ∷ []) t ≡ applied_pass h t
  pub built : built_of (h ++ e ∷ []) t ≡ built_of h t

pub tally_stays : (ts : List ℕ) (h : List HEntry) (e : HEntry) (t : ℕ) (o : Option Tally) → token_of (h ++ e ∷ []) t ≡ token_of h t → applied_pass (h ++ e ∷ []) t ≡ applied_pass h t → IsTallied ts h t o → IsTallied ts (h ++ e ∷ []) t o
tally_stays ts h e t None k a i = i
tally_stays ts h e t (Some y) k a i = (i.0, record { token = i.1.token ∙ sym k; at = i.1.at ∙ sym a })

forest_stays : (ts : List ℕ) (h : List HEntry) (e : HEntry) → ((t : ℕ) → Unsaid h e t) → map (standing (h ++ e ∷ []) (built_of (h ++ e ∷ []))) ts ≡ map (standing h (built_of h)) ts
forest_stays [] h e u = refl
forest_stays (t ∷ ts) h e u =
    ap₂ (λ s ss. s ∷ ss) (ap₂ (λ g m. record { id = t; tree = cond g None (Some m) }) (u t).gone (u t).built) (forest_stays ts h e u)

-- an entry that says nothing of any tree leaves all
pub all_stays : (f : Forest) (ys : List (Option Tally)) (ts : List ℕ) (h : List HEntry) (e : HEntry) → ((t : ℕ) → Unsaid h e t) → IsPast f ys ts h → IsPast f ys ts (h ++ e ∷ [])
unfolding built_forest_of
all_stays f ys ts h e u i = record {
  stands = i.stands ∙ sym (forest_stays ts h e u);
  tallied = λ t. tally_stays ts h e t (at_id ys t) (u t).token (u t).at (i.tallied t);
}

-- ---- asks, ends and probes

asked_at : (h : List HEntry) (t u : ℕ) → token_of (h ++ Asked t ∷ []) u ≡ cond (is_gone h u) (token_of h u) (token_of h u + length (filter (asks u) (until (ends u) (Asked t ∷ []))))
asked_at h t u = token-append h (Asked t) u

-- the token of a live tree that is asked for rises by one
pub asked_token : (h : List HEntry) (t : ℕ) → is_gone h t ≡ false → token_of (h ++ Asked t ∷ []) t ≡ token_of h t + 1
asked_token h t g =
    asked_at h t t
    ∙ (ap (λ b. cond b (token_of h t) (token_of h t + length (filter (asks t) (until (ends t) (Asked t ∷ []))))) g
    ∙ ap (λ n. token_of h t + n) (let same : (t == t) ≡ true = grind arith in rw same refl))

asked_other : (h : List HEntry) (t u : ℕ) → (t == u) ≡ false → token_of (h ++ Asked t ∷ []) u ≡ token_of h u
asked_other h t u q = asked_at h t u ∙ (ap (λ n. cond (is_gone h u) (token_of h u) (token_of h u + n)) (rw q refl) ∙ same_either (is_gone h u) (token_of h u))

asked_gone : (h : List HEntry) (t u : ℕ) → is_gone h u ≡ true → token_of (h ++ Asked t ∷ []) u ≡ token_of h u
asked_gone h t u g = asked_at h t u ∙ ap (λ b. cond b (token_of h u) (token_of h u + length (filter (asks u) (until (ends u) (Asked t ∷ []))))) g

asked_rest : (h : List HEntry) (t u : ℕ) → token_of (h ++ Asked t ∷ []) u ≡ token_of h u → Unsaid h (Asked t) u
asked_rest h t u k = record {
  gone = is_gone-append h (Asked t) u ∙ or_false (is_gone h u);
  token = k;
  at = applied_pass-append h (Asked t) u;
  built = built-append h (Asked t) u;
}

-- an ask for an ended tree leaves all
pub ask_gone : (f : Forest) (ys : List (Option Tally)) (ts : List ℕ) (h : List HEntry) (t : ℕ) → is_gone h t ≡ true → IsPast f ys ts h → IsPast f ys ts (h ++ Asked t ∷ [])
ask_gone f ys ts h t g i =
    all_stays f ys ts h (Asked t)
    (λ u. asked_rest h t u (by_go (t == u) (λ q. asked_gone h t u (ap (is_gone h) (sym (eqb-true t u q)) ∙ g)) (λ q. asked_other h t u q))) i

module _ (f : Forest) (ys zs : List (Option Tally)) (ts : List ℕ) (h : List HEntry) (t : ℕ) (y : Tally) (c : contains ts t ≡ true) (k : IsTallyOf h t y) (live : is_gone h t ≡ false)
    (token : Token) (next : token.0 ≡ y.token.0 + 1) (puts : Puts t (Some (record { token = token; at = y.at })) ys zs) where
  raised : IsTallyOf (h ++ Asked t ∷ []) t (record { token = token; at = y.at })
  raised = record {
    token = next ∙ (ap (λ n. n + 1) k.token ∙ sym (asked_token h t live));
    at = k.at ∙ sym (applied_pass-append h (Asked t) t);
  }

  -- an ask for a live tree raises its tally
  pub ask_live : IsPast f ys ts h → IsPast f zs ts (h ++ Asked t ∷ [])
  ask_live i = record {
    stands = i.stands ∙ sym (each_entry_retells ts h (Asked t));
    tallied = λ u. subst (λ (o : Option Tally). IsTallied ts (h ++ Asked t ∷ []) u o) (sym (puts u))
        (by_go (nat_eq t u)
        (λ q. rw q (subst (λ (v : ℕ). IsTallied ts (h ++ Asked t ∷ []) v (Some (record { token = token; at = y.at }))) (eqb-true t u q) (c, raised)))
        (λ q. rw q (tally_stays ts h (Asked t) u (at_id ys u) (asked_other h t u q) (applied_pass-append h (Asked t) u) (i.tallied u))));
  }

ended_token : (h : List HEntry) (t u : ℕ) → token_of (h ++ Ended t ∷ []) u ≡ token_of h u
ended_token h t u =
    token-append h (Ended t) u
    ∙ (ap (λ n. cond (is_gone h u) (token_of h u) (token_of h u + n)) (by_go (t == u) (λ q. rw q refl) (λ q. rw q refl)) ∙ same_either (is_gone h u) (token_of h u))

-- the end of a live tree drops it
pub end_live : (f g : Forest) (ys : List (Option Tally)) (ts : List ℕ) (h : List HEntry) (t : ℕ) → g ≡ dropped t f → IsPast f ys ts h → IsPast g ys ts (h ++ Ended t ∷ [])
end_live f g ys ts h t e i = record {
  stands = e ∙ (ap (dropped t) i.stands ∙ sym (each_entry_retells ts h (Ended t)));
  tallied = λ u. tally_stays ts h (Ended t) u (at_id ys u) (ended_token h t u) (applied_pass-append h (Ended t) u) (i.tallied u);
}

gone_already : (h : List HEntry) (t u : ℕ) → is_gone h t ≡ true → is_gone (h ++ Ended t ∷ []) u ≡ is_gone h u
gone_already h t u g =
    is_gone-append h (Ended t) u
    ∙ by_go (t == u)
    (λ q. let was : is_gone h u ≡ true = ap (is_gone h) (sym (eqb-true t u q)) ∙ g in ap (λ b. b || (t == u)) was ∙ sym was)
    (λ q. ap (λ b. is_gone h u || b) q ∙ or_false (is_gone h u))

-- and the end of an ended one leaves all
pub end_gone : (f : Forest) (ys : List (Option Tally)) (ts : List ℕ) (h : List HEntry) (t : ℕ) → is_gone h t ≡ true → IsPast f ys ts h → IsPast f ys ts (h ++ Ended t ∷ [])
end_gone f ys ts h t g i =
    all_stays f ys ts h (Ended t)
    (λ u. record { gone = gone_already h t u g; token = ended_token h t u; at = applied_pass-append h (Ended t) u; built = built-append h (Ended t) u }) i

-- a probe leaves all
pub probe_stays : (f : Forest) (ys : List (Option Tally)) (ts : List ℕ) (h : List HEntry) (t : ℕ) (x : TreeUpdate) → IsPast f ys ts h → IsPast f ys ts (h ++ Probed t x ∷ [])
probe_stays f ys ts h t x i =
    all_stays f ys ts h (Probed t x)
    (λ u. record {
      gone = is_gone-append h (Probed t x) u ∙ or_false (is_gone h u);
      token = token-append h (Probed t x) u ∙ same_either (is_gone h u) (token_of h u);
      at = applied_pass-append h (Probed t x) u;
      built = built-append h (Probed t x) u;
    })
    i
