-- What a map has after an entry is put or taken out.
use Rattle.std.proofs.Common.{◌≡◌, ℕ, zero, suc, ◌+◌, ◌-◌, ◌<◌, Bool, true, false, cond, eqb, Option, Some, None, refl, sym, ap, ◌∙◌, arith, Bor}
use Rattle.std.specs.Prelude.{is_some, option_map}
use Rattle.std.specs.Option.{option_copied}
use Rattle.std.specs.Ordering.{nat_cmp}
use Rattle.std.specs.Cmp.{nat_cmp_total}
use Rattle.std.specs.FinMap as map
use Rattle.ax_mirror.specs.declared.entries.Entry.{Entry}
use Rattle.ax_mirror.specs.Placed.{Nodes}
use Rattle.ax_pages.proofs.TableLemmas.{cmp_is}

pub get_insert : (m : Nodes) (k : ℕ) (e : Entry) (z : ℕ) → map.get (map.insert m k e) z ≡ cond (eqb k z) (Some e) (map.get m z)
get_insert m k e z = map.get-insert nat_cmp_total m k e z ∙ ap (λ b. cond b (Some e) (map.get m z)) (cmp_is z k)

pub get_remove : (m : Nodes) (k z : ℕ) → map.get (map.remove m k) z ≡ cond (eqb k z) None (map.get m z)
get_remove m k z = map.get-remove nat_cmp_total m k z ∙ ap (λ b. cond b None (map.get m z)) (cmp_is z k)

pub map_cond : {X Y : Type 0} (g : X → Y) (b : Bool) (o p : Option X) → option_map g (cond b o p) ≡ cond b (option_map g o) (option_map g p)
map_cond g true o p = refl
map_cond g false o p = refl

pub len_insert : (m : Nodes) (k : ℕ) (e : Entry) → map.len (map.insert m k e) ≡ cond (map.contains_key m k) (map.len m) (map.len m + 1)
len_insert m k e = map.len-insert nat_cmp_total m k e

pub len_remove : (m : Nodes) (k : ℕ) → map.contains_key m k ≡ true → map.len (map.remove m k) + 1 ≡ map.len m
len_remove m k there = go (map.len m) refl (map.len-remove nat_cmp_total m k ∙ ap (λ b. cond b (map.len m - 1) (map.len m)) there)
  where
    go : (n : ℕ) → map.len m ≡ n → map.len (map.remove m k) ≡ map.len m - 1 → map.len (map.remove m k) + 1 ≡ map.len m
    go zero w l = absurd (let e : map.get m k ≡ None = ap (λ n. map.get n k) (map.empty_of_len m w) ∙ map.get-empty nat_cmp k in let f : is_some (map.get m k) ≡ false = ap is_some e in cc)
    go (suc n) w l = omega arith

-- taking out what is there makes the map shorter
pub len_falls : (m : Nodes) (k : ℕ) (e : Entry) → Some e ≡ map.get m k → map.len (map.remove m k) < map.len m
len_falls m k e h = let l : map.len (map.remove m k) + 1 ≡ map.len m = len_remove m k (ap is_some (sym h)) in omega arith

pub is_some-copied : {X : Type 0} (o : Option (Bor X)) → is_some (option_copied o) ≡ is_some o
is_some-copied None = refl
is_some-copied (Some x) = refl

pub is_some-map : {X Y : Type 0} (g : X → Y) (o : Option X) → is_some (option_map g o) ≡ is_some o
is_some-map g None = refl
is_some-map g (Some e) = refl

pub at_other : {X : Type 0} (b : Bool) (x y z : X) → b ≡ false → z ≡ cond b x y → z ≡ y
at_other true x y z h e = absurd (cc)
at_other false x y z h e = e
