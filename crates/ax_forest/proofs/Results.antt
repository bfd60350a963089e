-- Facts of the value of a result.
use Rattle.std.specs.Prelude.{Result, Ok, Err, IfOk, OnOk, OnErr, IfErr}

module _ {A E : Type 0} where
  pub if_ok : {P Q : A → Type 0} (r : Result A E) → ((x : A) → P x → Q x) → IfOk r P → IfOk r Q
  if_ok (Ok x) f p = f x p
  if_ok (Err e) f p = p

  pub on_ok : {P Q : Type 0} (r : Result A E) → (P → Q) → OnOk r P → OnOk r Q
  on_ok (Ok x) f p = f p
  on_ok (Err e) f p = p

  pub if_err : {P Q : E → Type 0} (r : Result A E) → ((e : E) → P e → Q e) → IfErr r P → IfErr r Q
  if_err (Ok x) f p = p
  if_err (Err e) f p = f e p

  -- what holds anyway
  pub on_all : {P : Type 0} (r : Result A E) → P → OnOk r P
  on_all (Ok x) p = p
  on_all (Err e) p = tt

  pub on_both : {P Q R : Type 0} (r : Result A E) → (P → Q → R) → OnOk r P → OnOk r Q → OnOk r R
  on_both (Ok x) f p q = f p q
  on_both (Err e) f p q = p

  pub either : {P Q R S : Type 0} (r : Result A E) → (P → Q → R) → (S → R) → OnOk r P → OnOk r Q → OnErr r S → R
  either (Ok x) f g p q s = f p q
  either (Err e) f g p q s = g s

  pub on_err : {P Q : Type 0} (r : Result A E) → (P → Q) → OnErr r P → OnErr r Q
  on_err (Ok x) f p = p
  on_err (Err e) f p = f p

  pub on_each : {P Q R : Type 0} (r : Result A E) → (P → R) → (Q → R) → OnOk r P → OnErr r Q → R
  on_each (Ok x) f g p q = f p
  on_each (Err e) f g p q = g q
