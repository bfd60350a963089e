-- What the end of_tree a lane gives, of_tree plain lists.
use Rattle.std.proofs.Common.{◌≡◌, ℕ, zero, suc, ◌<◌, List, [], ◌∷◌, ◌++◌, length, map, take, get_or, inl, inr, sym, refl, ap, ◌∙◌, subst, ⊎_elim, arith, All, append-nil}
use Rattle.ax_tree.specs.declared.packet.Packet.{Packet}
use Rattle.ax_tree.specs.Packets.{IsGood}
use Rattle.ax_lane.specs.Packets.{of_tree, Includes, AllDiffer, AllOf}
use Rattle.ax_lane.specs.Lanes.{Back, IsInLog, Backs, Left, taker}
use Rattle.ax_lane.specs.Ends.{TxView, back_of}

Includes-get : (xs : List ℕ) (i d : ℕ) → i < length xs → Includes xs (get_or xs i d)
Includes-get [] i d h = absurd (omega arith)
Includes-get (x ∷ xs) zero d h = inl refl
Includes-get (x ∷ xs) (suc i) d h = inr (Includes-get xs i d (omega arith))

pub distinct_at : (xs : List ℕ) (i : ℕ) (x : ℕ) → x ≡ get_or xs i x → i < length xs → AllDiffer xs → Includes (take i xs) x → ⊥
distinct_at [] i x is h d has = absurd (omega arith)
distinct_at (y ∷ ys) zero x is h d has = has
distinct_at (y ∷ ys) (suc i) x is h d has =
    ⊎_elim (λ (e : y ≡ x). d.0 (subst (Includes ys) (sym (e ∙ is)) (Includes-get ys i x (omega arith)))) (λ r. distinct_at ys i x is (omega arith) d.1 r) has

back_right : (log : List Packet) (trees : List ℕ) (bs cs : List Back) → Backs log trees (bs ++ cs) → Backs log trees cs
back_right log trees [] cs h = h
back_right log trees (b ∷ bs) cs h = back_right log trees bs cs h.2

each_sent : (log : List Packet) (trees : List ℕ) (xs : List TxView) → Backs log trees (map back_of xs) → (k : ℕ) (d : TxView) → k < length xs → IsInLog log (get_or xs k d).tree (get_or xs k d).sent (get_or xs k d).places
each_sent log trees [] h k d l = absurd (omega arith)
each_sent log trees (x ∷ xs) h zero d l = h.0
each_sent log trees (x ∷ xs) h (suc k) d l = each_sent log trees xs h.2 k d (omega arith)

pub all_sent : (log : List Packet) (trees : List ℕ) (bs : List Back) (xs : List TxView) → Backs log trees (bs ++ map back_of xs) → All (λ t. IsInLog log t.tree t.sent t.places) xs
all_sent log trees bs xs h = each_sent log trees xs (back_right log trees bs (map back_of xs) h)

pub from_right : (trees : List ℕ) (ps qs : List Packet) → AllOf trees (ps ++ qs) → AllOf trees qs
from_right trees [] qs h = h
from_right trees (p ∷ ps) qs h = from_right trees ps qs h.1

pub ended : (got got0 items : List Packet) (trees trees0 : List ℕ) (back back0 : List Back) (xs : List TxView) → got ≡ got0 → trees ≡ trees0 → back ≡ back0 ++ map back_of xs → Left (taker (got ++ items) trees back) []
    → All (λ t. IsInLog (got0 ++ items) t.tree t.sent t.places) xs × AllOf trees0 items × ((t : ℕ) → IsGood t (of_tree t (got0 ++ items)))
ended got got0 items trees trees0 back back0 xs a b c h =
    let log : (got ++ items) ++ [] ≡ got0 ++ items = append-nil (got ++ items) ∙ ap (λ l. l ++ items) a in
    let backs : Backs (got0 ++ items) trees0 (back0 ++ map back_of xs) = subst (λ (y : List Packet × List ℕ × List Back). Backs y.0 y.1 y.2) (λ i. (log i, b i, c i)) h.0 in
    let known : AllOf trees0 (got0 ++ items) = subst (λ (y : List Packet × List ℕ). AllOf y.1 y.0) (λ i. (log i, b i)) h.1 in
    (all_sent (got0 ++ items) trees0 back0 xs backs, from_right trees0 got0 items known, λ t. subst (λ l. IsGood t (of_tree t l)) log (h.2 t))
