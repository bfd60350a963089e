-- When the test of a rectangle says that it is blank.
use Rattle.std.proofs.Common.{ℤ, pos, ◌≡◌, ◌↔◌, IsTrue, Bool, true, false, ◌&&◌, refl, sym, ap, true≢false, arith}
use Rattle.std.proofs.lemmas.Int.{ints}
use Rattle.ax_base.specs.Area.{Area}
use Rattle.ax_node.specs.Look.{blank_area}
use Rattle.ax_rules.specs.Looks.{same_area, same_int}

zero_int : (x : ℤ) → same_int x (pos 0) ≡ true → x ≡ pos 0
zero_int x h = grind (arith, ints)

both : (a b : Bool) → (a && b) ≡ true → (a ≡ true) × (b ≡ true)
both true b h = (refl, h)
both false b h = absurd (cc)

blank_from : (a : Area) → same_area a blank_area ≡ true → a ≡ blank_area
blank_from a h =
    let p = both (same_int a.x (pos 0)) _ h in
    let q = both (same_int a.y (pos 0)) _ p.1 in
    let r = both (same_int a.w (pos 0)) _ q.1 in
    let ex = zero_int a.x p.0 in
    let ey = zero_int a.y q.0 in
    let ew = zero_int a.w r.0 in
    let eh = zero_int a.h r.1 in
    λ z. record { x = ex z; y = ey z; w = ew z; h = eh z }

pub areas : (a : Area) (r : Bool) → (IsTrue r ↔ (a ≡ blank_area)) → r ≡ same_area a blank_area
areas a true h = sym (ap (λ x. same_area x blank_area) (h.0 refl))
areas a false h = go (same_area a blank_area) refl
  where
    go : (s : Bool) → same_area a blank_area ≡ s → false ≡ s
    go true e = absurd (true≢false (sym (h.1 (blank_from a e))))
    go false e = refl
