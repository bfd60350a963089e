-- Plain packets are good.
use Rattle.std.proofs.Common.{◌≡◌, ◌<◌, ◌⊎◌, inl, inr, ℕ, zero, suc, ◌+◌, cond, eqb, List, [], ◌∷◌, ◌++◌, length, slice_get, take, Some, Ok, length-append, eq-eqb, refl, sym, ap, ◌∙◌, subst, add-one, arith}
use Rattle.std.specs.List.{flat_map}
use Rattle.std.proofs.lemmas.Option.{same_Some}
use Rattle.ax_tree.specs.declared.packet.Packet.{Packet}
use Rattle.ax_tree.specs.Tree.{empty}
use Rattle.ax_tree.specs.Updates.{applied_all}
use Rattle.ax_tree.specs.Packets.{edited_all, source_at, GoodAt, IsGood}
use Rattle.ax_lane.specs.Ends.{LaneId, TxView, new_sender, sent_at}
use Rattle.ax_lane.specs.Packets.{of_tree}
use Rattle.ax_lane_uses.specs.Plain.{IsPlain, AllPlain, IsAllOf, IsNewSender, HasSent}

no_slips : (ps : List Packet) (n : ℕ) → ((k : ℕ) (p : Packet) → slice_get ps k ≡ Some p → p.slip ≡ []) → flat_map (λ (p : Packet). p.slip) (take n ps) ≡ []
no_slips ps zero h = refl
no_slips [] (suc n) h = refl
no_slips (p ∷ ps) (suc n) h = ap (λ l. l ++ flat_map (λ (q : Packet). q.slip) (take n ps)) (h 0 p refl) ∙ no_slips ps n (λ k q at. h (suc k) q at)

pub plain_good : (t : ℕ) (ps : List Packet) → AllPlain t ps → IsGood t ps
plain_good t ps all = record { at = good }
  where
    good : (k : ℕ) (p : Packet) → slice_get ps k ≡ Some p → GoodAt t ps k p
    good k p at =
        let plain = all.at k p at in
        let nothing : flat_map (λ (q : Packet). q.slip) (take (suc k) ps) ≡ [] = no_slips ps (suc k) (λ j q there. (all.at j q there).slip) in
        record {
          of_tree = plain.of;
          pass = plain.pass;
          base = inl plain.base;
          gives = ap (λ b. applied_all b (cond (eqb p.base.0 0) (empty t) (source_at t ps k))) plain.bundle
              ∙ (ap (λ b. Ok (cond b (empty t) (source_at t ps k))) (eq-eqb p.base.0 0 plain.base)
              ∙ ap (λ es. Ok (edited_all es (empty t))) (sym nothing));
        }

slice_get-seam : {A : Type 0} (xs : List A) (x : A) (k : ℕ) (y : A) → slice_get (xs ++ x ∷ []) k ≡ Some y → (slice_get xs k ≡ Some y) ⊎ ((k ≡ length xs) × (x ≡ y))
slice_get-seam [] x zero y at = inr (refl, same_Some x y at)
slice_get-seam [] x (suc k) y at = absurd (cc at)
slice_get-seam (z ∷ zs) x zero y at = inl at
slice_get-seam (z ∷ zs) x (suc k) y at = go (slice_get-seam zs x k y at)
  where
    go : (slice_get zs k ≡ Some y) ⊎ ((k ≡ length zs) × (x ≡ y)) → (slice_get zs k ≡ Some y) ⊎ ((suc k ≡ suc (length zs)) × (x ≡ y))
    go (inl there) = inl there
    go (inr e) = inr (ap suc e.0, e.1)

pub plain_empty : (t : ℕ) → AllPlain t []
plain_empty t = record { at = λ k p at. absurd (cc at) }

pub plain_push : (t n : ℕ) (ps : List Packet) (p : Packet) → length ps ≡ n → AllPlain t ps → IsPlain t (n + 1) p → AllPlain t (ps ++ p ∷ [])
plain_push t n ps p count all last = record { at = λ k q at. go k q (slice_get-seam ps p k q at) }
  where
    go : (k : ℕ) (q : Packet) → (slice_get ps k ≡ Some q) ⊎ ((k ≡ length ps) × (p ≡ q)) → IsPlain t (suc k) q
    go k q (inl there) = all.at k q there
    go k q (inr e) =
        let number : n + 1 ≡ suc k = sym (ap (λ m. m + 1) (e.0 ∙ count)) ∙ add-one k in
        subst (λ (r : Packet). IsPlain t (suc k) r) e.1 (subst (λ (m : ℕ). IsPlain t m p) number last)

pub plain_next : (t n : ℕ) (ps : List Packet) (p : Packet) → length ps ≡ n → AllPlain t ps → IsPlain t (n + 1) p → IsGood t (ps ++ p ∷ [])
plain_next t n ps p count all last = plain_good t (ps ++ p ∷ []) (plain_push t n ps p count all last)

-- what was sent is there, whole and in order
pub whole_of : (lane : LaneId) (tree count : ℕ) (tx : TxView) (log : List Packet) → HasSent lane tree count tx → of_tree tx.tree log ≡ tx.sent → IsAllOf tree count log
whole_of lane tree count tx log sent same =
    let e : of_tree tree log ≡ tx.sent = ap (λ t. of_tree t log) (sym sent.for_tree) ∙ same in
    record { in_order = subst (AllPlain tree) (sym e) sent.in_order; all_there = ap length e ∙ sent.all_there }

pub sent_one_more : (lane : LaneId) (tree n place : ℕ) (old new : TxView) (p : Packet) → HasSent lane tree n old → IsPlain tree (n + 1) p
    → new ≡ sent_at place p old → HasSent lane tree (n + 1) new
sent_one_more lane tree n place old new p sent plain e = record {
  of = ap (λ t. t.lane) e ∙ sent.of;
  for_tree = ap (λ t. t.tree) e ∙ sent.for_tree;
  in_order = subst (AllPlain tree) (sym (ap (λ t. t.sent) e)) (plain_push tree n old.sent p sent.all_there sent.in_order plain);
  all_there = ap (λ t. length t.sent) e ∙ (length-append old.sent (p ∷ []) ∙ ap (λ m. m + 1) sent.all_there);
}

pub sent_none : (lane : LaneId) (tree : ℕ) (tx : TxView) → IsNewSender lane tree tx → HasSent lane tree 0 tx
sent_none lane tree tx new = record {
  of = new.of;
  for_tree = new.for_tree;
  in_order = subst (AllPlain tree) (sym new.nothing) (plain_empty tree);
  all_there = ap length new.nothing;
}

pub two_new : (lane : LaneId) (items : List TxView) (a b : TxView) → items ≡ a ∷ b ∷ [] → items ≡ new_sender lane 1 ∷ new_sender lane 2 ∷ []
    → IsNewSender lane 1 a × IsNewSender lane 2 b
two_new lane items a b e made =
    let same : a ∷ b ∷ [] ≡ new_sender lane 1 ∷ new_sender lane 2 ∷ [] = sym e ∙ made in
    let first : a ≡ new_sender lane 1 = cc in
    let second : b ≡ new_sender lane 2 = cc in (
      record { of = ap (λ t. t.lane) first; for_tree = ap (λ t. t.tree) first; nothing = ap (λ t. t.sent) first },
      record { of = ap (λ t. t.lane) second; for_tree = ap (λ t. t.tree) second; nothing = ap (λ t. t.sent) second },
    )
