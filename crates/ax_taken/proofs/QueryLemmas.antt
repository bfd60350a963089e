-- One reader more, in the loop over the readers.
use Rattle.std.proofs.Common.{ℕ, zero, suc, ◌+◌, ◌≡◌, ◌≤◌, ◌<◌, List, [], ◌∷◌, ◌++◌, length, map, get_or, set, take, drop, flat_map, replicate, slice_get, refl, sym, ap, ◌∙◌, Some, option_map, arith, append_assoc}
use Rattle.std.specs.List.{enumerate_from}
use Rattle.std.proofs.lemmas.List.{take_all, set_at, map-append, length-map, length-take-le}
use Rattle.std.proofs.lemmas.List.FromFn.{length-enumerate_from}
use Rattle.std.proofs.lemmas.Option.{slice_get-get_or}
use Rattle.ax_ask.specs.declared.op.Item.{Item}
use Rattle.ax_ask.specs.declared.op.Item.TheVariants.{Reader}
use Rattle.ax_run_rules.specs.Taken.{queries_at}
use Rattle.ax_order_laws.specs.Parts.{list_at, list_or}
use Rattle.ax_order_laws.proofs.Lists.{take_next, drop_next, flat_next}
use Rattle.ax_order_laws.proofs.Looks.{asked_at}
use Rattle.ax_taken.specs.Taking.{below, at_once}

pub there_of : {X : Type 0} (xs : List X) (k : ℕ) (x : X) → k < length xs → x ≡ get_or xs k x → slice_get xs k ≡ Some x
there_of xs k x l h = slice_get-get_or xs k x l ∙ ap Some (sym h)

pub list_there : (xss : List (List ℕ)) (k : ℕ) (ns : List ℕ) → k < length xss → ns ≡ get_or xss k ns → list_at xss k ≡ ns
list_there xss k ns l h = ap list_or (there_of xss k ns l h)

pub entry_at : {X : Type 0} (d k m : ℕ) (xs : List X) → m ≡ d + k → slice_get (enumerate_from d xs) k ≡ option_map (λ x. (m, x)) (slice_get xs k)
entry_at d k m [] h = refl
entry_at d zero m (x ∷ xs) h = ap (λ i. Some (i, x)) (omega (arith, h))
entry_at d (suc k) m (x ∷ xs) h = entry_at (d + 1) k m xs (omega (arith, h))

pub queries_more : (looks : List (List ℕ)) (n k : ℕ) (ns : List ℕ) (old now new : List Item) → k < length looks → ns ≡ get_or looks k ns
    → now ≡ old ++ flat_map (asked_at n) (take k (enumerate_from 1 looks)) → new ≡ now ++ replicate (at_once n ns) (Reader (k + 1))
    → new ≡ old ++ flat_map (asked_at n) (take (k + 1) (enumerate_from 1 looks))
queries_more looks n k ns old now new l h e f =
    let there : slice_get (enumerate_from 1 looks) k ≡ Some (k + 1, ns) = entry_at 1 k (k + 1) looks (omega arith) ∙ ap (option_map (λ x. (k + 1, x))) (there_of looks k ns l h) in
    f ∙ (ap (λ i. i ++ replicate (at_once n ns) (Reader (k + 1))) e
    ∙ (append_assoc old (flat_map (asked_at n) (take k (enumerate_from 1 looks))) (replicate (at_once n ns) (Reader (k + 1)))
    ∙ (ap (λ i. old ++ i) (sym (flat_next (asked_at n) (enumerate_from 1 looks) k (k + 1, ns) there))
    ∙ ap (λ i. old ++ flat_map (asked_at n) (take i (enumerate_from 1 looks))) (let z : suc k ≡ k + 1 = omega arith in z))))

pub places_more : (looks : List (List ℕ)) (n k : ℕ) (ns : List ℕ) (places : List ℕ) (place : ℕ) → k < length looks → ns ≡ get_or looks k ns
    → places ≡ map (below (n + 1)) (take k looks) ++ map (below n) (drop k looks) → place ≡ below (n + 1) ns
    → set places k place ≡ map (below (n + 1)) (take (k + 1) looks) ++ map (below n) (drop (k + 1) looks)
places_more looks n k ns places place l h e f =
    let there = there_of looks k ns l h in
    let front = map (below (n + 1)) (take k looks) in
    let size : length (map (below (n + 1)) (take k looks)) ≡ k = length-map (take k looks) (below (n + 1)) ∙ length-take-le k looks (omega arith) in
    let split : places ≡ map (below (n + 1)) (take k looks) ++ (below n ns ∷ map (below n) (drop (suc k) looks)) = e ∙ ap (λ i. front ++ map (below n) i) (drop_next looks k ns there) in
    let next : suc k ≡ k + 1 = omega arith in
    ap (λ i. set i k place) split
    ∙ (set_at (map (below (n + 1)) (take k looks)) (below n ns) (map (below n) (drop (suc k) looks)) place k size
    ∙ (ap (λ i. front ++ (i ∷ map (below n) (drop (suc k) looks))) f
    ∙ (sym (append_assoc (map (below (n + 1)) (take k looks)) (below (n + 1) ns ∷ []) (map (below n) (drop (suc k) looks)))
    ∙ (ap (λ i. i ++ map (below n) (drop (suc k) looks)) (sym (ap (map (below (n + 1))) (take_next looks k ns there) ∙ map-append (below (n + 1)) (take k looks) (ns ∷ [])))
    ∙ ap (λ i. map (below (n + 1)) (take i looks) ++ map (below n) (drop i looks)) next))))

pub queries_done : (looks : List (List ℕ)) (n k : ℕ) (old now : List Item) → length looks ≤ k → now ≡ old ++ flat_map (asked_at n) (take k (enumerate_from 1 looks)) → now ≡ old ++ queries_at looks n
unfolding queries_at
queries_done looks n k old now l e =
    let size = length-enumerate_from 1 looks in
    e ∙ ap (λ i. old ++ flat_map (asked_at n) i) (take_all k (enumerate_from 1 looks) (omega (arith, size, l)))
