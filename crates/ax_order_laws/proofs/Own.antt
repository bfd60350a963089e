-- The packets that the run makes in the place of those received: each is that of its frame's pass, and the same but for its bundle.
use Rattle.std.proofs.Common.{ℕ, suc, ◌-◌, ◌≡◌, ◌<◌, List, [], ◌∷◌, ◌++◌, length, map, take, slice_get, refl, sym, ap, ◌∙◌, Option, Some, None, option_map, arith}
use Rattle.std.proofs.lemmas.List.{take-map, length-map}
use Rattle.std.proofs.lemmas.Option.{slice_get-map}
use Rattle.ax_tree.specs.declared.packet.Packet.{Packet}
use Rattle.ax_tree.specs.declared.packet.HEntry.{HEntry}
use Rattle.ax_tree.specs.declared.packet.HEntry.TheVariants.{Got, Asked, Ended, Probed}
use Rattle.ax_tree.specs.Journals.{packets_of}
use Rattle.ax_tree.specs.Packets.{Head, head_of}
use Rattle.ax_rules.specs.Histories.{got}
use Rattle.ax_run_rules.specs.Taken.{Closed}
use Rattle.ax_order_laws.specs.Parts.{journal_in, waiting_of, without_bundle, entry_without, IsClosedHub}
use Rattle.ax_order_laws.proofs.Lists.{get_within, get_front, get_some}
use Rattle.ax_order_laws.proofs.Cuts.{packets_front}
use Rattle.ax_order_laws.proofs.Standing.{fits, ranked, pass_is}
use Rattle.ax_order_laws.proofs.Bare.{bare}

pub map_map : {X Y Z : Type 0} (f : X → Y) (g : Y → Z) (xs : List X) → map g (map f xs) ≡ map (λ x. g (f x)) xs
map_map f g [] = refl
map_map f g (x ∷ xs) = ap (λ l. g (f x) ∷ l) (map_map f g xs)

pub map_same : {X Y : Type 0} (f g : X → Y) (xs : List X) → ((n : ℕ) (x : X) → slice_get xs n ≡ Some x → f x ≡ g x) → map f xs ≡ map g xs
map_same f g [] h = refl
map_same f g (x ∷ xs) h = ap (λ y. y ∷ map f xs) (h 0 x refl) ∙ ap (λ l. g x ∷ l) (map_same f g xs (λ n y e. h (suc n) y e))

abbrev pub packet_or : Packet → Option Packet → Packet
packet_or p None = p
packet_or p (Some q) = q

-- the packet of its frame's pass
abbrev pub own : Closed → Packet → Packet
own c p = packet_or p (slice_get (packets_of p.tree (journal_in c p.tree)) (p.pass.0 - 1))

abbrev pub own_entry : Closed → HEntry → HEntry
own_entry c (Got p) = Got (own c p)
own_entry c (Asked t) = Asked t
own_entry c (Ended t) = Ended t
own_entry c (Probed t u) = Probed t u

abbrev bare_of : Head → Packet
bare_of h = record { tree = h.tree; pass = record { 0 = h.pass }; base = record { 0 = h.base }; token = record { 0 = h.token }; slip = h.slip; bundle = [] }

pub same_bare : (p q : Packet) → head_of p ≡ head_of q → without_bundle p ≡ without_bundle q
same_bare p q e = ap bare_of e

-- the element of a list at a place, by the other list's of the same heads
head_there : (ps qs : List Packet) (k : ℕ) (p : Packet) → map head_of ps ≡ map head_of qs → slice_get ps k ≡ Some p → (q : Packet) × (slice_get qs k ≡ Some q) × (head_of q ≡ head_of p)
head_there ps qs k p e h =
    let l : length qs ≡ length ps = sym (length-map qs head_of) ∙ (ap length (sym e) ∙ length-map ps head_of) in
    let w : k < length qs = let i = get_within ps k p h in omega (arith, i, l) in
    let x = get_some qs k w in
    let a : option_map head_of (slice_get qs k) ≡ option_map head_of (slice_get ps k) = sym (slice_get-map head_of qs k) ∙ (ap (λ l. slice_get l k) (sym e) ∙ slice_get-map head_of ps k) in
    let b : Some (head_of x.0) ≡ Some (head_of p) = ap (option_map head_of) (sym x.1) ∙ (a ∙ ap (option_map head_of) h) in
    (x.0, x.1, cc)

module _ (c : Closed) (waiting : List Packet) (looks : List (List ℕ)) (closed : IsClosedHub c waiting looks) where
  -- a packet received is at its rank among those that the journal's passes make
  pub record Ranked (n : ℕ) (p : Packet) : Type 0 where
    pub there : slice_get (packets_of p.tree (journal_in c p.tree)) (length (got (take n c.history) p.tree)) ≡ Some (own c p)
    pub head : without_bundle (own c p) ≡ without_bundle p

  pub own_ranked : (n : ℕ) (p : Packet) → slice_get c.history n ≡ Some (Got p) → Ranked n p
  own_ranked n p h =
      let k = length (got (take n c.history) p.tree) in
      let x = head_there (got c.history p.tree ++ waiting_of waiting p.tree) (packets_of p.tree (journal_in c p.tree)) (length (got (take n c.history) p.tree)) p
      (fits c waiting looks closed p.tree).heads (ranked c waiting looks closed n p h) in
      let one : p.pass.0 - 1 ≡ length (got (take n c.history) p.tree) = let e = pass_is c waiting looks closed n p h in omega (arith, e) in
      let same : own c p ≡ x.0 = ap (λ i. packet_or p (slice_get (packets_of p.tree (journal_in c p.tree)) i)) one ∙ ap (packet_or p) x.1 in
      record { there = x.1 ∙ ap Some (sym same); head = ap without_bundle same ∙ same_bare x.0 p x.2 }

  entry_own : (n : ℕ) (e : HEntry) → slice_get c.history n ≡ Some e → entry_without (own_entry c e) ≡ entry_without e
  entry_own n (Got p) h = ap Got (own_ranked n p h).head
  entry_own n (Asked t) h = refl
  entry_own n (Ended t) h = refl
  entry_own n (Probed t u) h = refl

  -- the history that the run has in the place of n entries
  pub own_bare : (n : ℕ) → bare (map (own_entry c) (take n c.history)) ≡ bare (take n c.history)
  own_bare n =
      map_map (own_entry c) entry_without (take n c.history)
      ∙ (sym (take-map (λ e. entry_without (own_entry c e)) n c.history)
      ∙ (ap (take n) (map_same (λ e. entry_without (own_entry c e)) entry_without c.history entry_own) ∙ take-map entry_without n c.history))

  -- the packet that the run receives, where its frame has made it
  pub own_made : (n m : ℕ) (p : Packet) → slice_get c.history n ≡ Some (Got p) → length (got (take n c.history) p.tree) < length (packets_of p.tree (take m (journal_in c p.tree)))
      → slice_get (packets_of p.tree (take m (journal_in c p.tree))) (length (got (take n c.history) p.tree)) ≡ Some (own c p)
  own_made n m p h l =
      let f = packets_front p.tree m (journal_in c p.tree) in
      sym (get_front (packets_of p.tree (take m (journal_in c p.tree))) f.0 (length (got (take n c.history) p.tree)) l)
      ∙ (ap (λ ps. slice_get ps (length (got (take n c.history) p.tree))) (sym f.1) ∙ (own_ranked n p h).there)
