-- Pieces of work that a listener hears, joined.
use Rattle.std.proofs.Common.{◌≡◌, inl, inr, Bool, true, false, List, [], ◌∷◌, ◌++◌, refl, sym, ap, ◌∙◌, append_assoc, Result, Ok, Err, OnOk, OnErr, is_ok}
use Rattle.ax_base.specs.declared.seq.NoMemory.{NoMemory}
use Rattle.ax_ask.specs.declared.line.Line.{Line}
use Rattle.ax_run_rules.specs.States.{State, Run}
use Rattle.ax_core.specs.Finishing.{run_of, Then}
use Rattle.ax_core.specs.Hearing.{all_heard, Hears}

-- ---- lists of lines

heard_more : {A : Type 0} (heard : A → Line → A) (z : A) (ls : List Line) (l : Line) → all_heard heard z (ls ++ l ∷ []) ≡ heard (all_heard heard z ls) l
heard_more heard z [] l = refl
heard_more heard z (x ∷ ls) l = heard_more heard (heard z x) ls l

-- a list keeps what it hears
pub all_kept : (ks ls : List Line) → all_heard (λ (xs : List Line) (l : Line). xs ++ l ∷ []) ks ls ≡ ks ++ ls
all_kept ks [] = sym (end ks)
  where
    end : (xs : List Line) → xs ++ [] ≡ xs
    end [] = refl
    end (x ∷ xs) = ap (λ ys. x ∷ ys) (end xs)
all_kept ks (l ∷ ls) = all_kept (ks ++ l ∷ []) ls ∙ append_assoc ks (l ∷ []) ls

-- ---- pieces

abbrev pub OneLine : Line → Bool → Run → Run → Type 0
OneLine l b r e = e.lines ≡ r.lines ++ l ∷ []

module _ {A : Type 0} {heard : A → Line → A} where
  -- what has been done of a piece, by the lines of it alone
  pub here : {P : Bool → Run → Run → Type 0} {b : Bool} {s m : State} {a c : A} → Hears heard P b s m a c → (ls : List Line) × P b (run_of s []) (run_of m ls)
  here {a = a} h = let x = h.behind a [] refl in (x.0, x.1.0)

  pub begins : {P : Bool → Run → Run → Type 0} {s : State} {a : A} → ((ls : List Line) → P true (run_of s ls) (run_of s ls)) → Hears heard P true s s a a
  begins q = record { behind = λ z before e. (before, (q before, e)) }

  -- nothing more is heard of a piece that was broken off
  pub breaks : {P : Bool → Run → Run → Type 0} {s m : State} {a c : A} → ((ls : List Line) → P false (run_of s ls) (run_of m ls)) → Hears heard P false s m a c
  breaks q = record { behind = λ z before e. (before, (q before, tt)) }

  pub follows : {P Q : Bool → Run → Run → Type 0} {b : Bool} {s m : State} {a c : A} → Hears heard P b s m a c
      → ((ks ls : List Line) → P b (run_of s ks) (run_of m ls) → Q b (run_of s ks) (run_of m ls)) → Hears heard Q b s m a c
  follows h q = record { behind = λ z before e. let x = h.behind z before e in (x.0, (q before x.0 x.1.0, x.1.1)) }

  pub joins : {P Q R : Bool → Run → Run → Type 0} {b : Bool} {s m e : State} {a c d : A} → Hears heard P true s m a c → Hears heard Q b m e c d
      → ((is js ks : List Line) → P true (run_of s is) (run_of m js) → Q b (run_of m js) (run_of e ks) → R b (run_of s is) (run_of e ks)) → Hears heard R b s e a d
  joins h k q = record {
    behind = λ z before e. let x = h.behind z before e in let y = k.behind z x.0 x.1.1 in (y.0, (q before x.0 y.0 x.1.0 y.1.0, y.1.1));
  }

  -- a line is heard, or there is no memory for it
  pub tells : {P : Bool → Run → Run → Type 0} {s m : State} {a c : A} (r : Result (Unit {0}) NoMemory) (l : Line) → OnOk r (c ≡ heard a l)
      → ((old new : List Line) → OnOk r (new ≡ old ++ l ∷ []) → OnErr r (new ≡ old) → P (is_ok r) (run_of s old) (run_of m new)) → Hears heard P (is_ok r) s m a c
  tells (Ok x) l k q = record { behind = λ z before e. (before ++ l ∷ [], (q before (before ++ l ∷ []) refl tt, k ∙ (ap (λ y. heard y l) e ∙ sym (heard_more heard z before l)))) }
  tells (Err x) l k q = record { behind = λ z before e. (before, (q before before tt refl, tt)) }

  pub told : {s m : State} {a c : A} (l : Line) → c ≡ heard a l → Hears heard (OneLine l) true s m a c
  told l k = record { behind = λ z before e. (before ++ l ∷ [], (refl, k ∙ (ap (λ y. heard y l) e ∙ sym (heard_more heard z before l)))) }

  -- one piece and then another
  pub thens : {P Q : Bool → Run → Run → Type 0} {b : Bool} {s m e : State} {a c d : A} → Hears heard P true s m a c → Hears heard Q b m e c d → Hears heard (Then P Q) b s e a d
  thens {P = P} {Q = Q} {b = b} h k = joins h k (λ is js ks p q. go b p q)
    where
      go : {r m e : Run} (b : Bool) → P true r m → Q b m e → Then P Q b r e
      go {m = m} true p q = (m, (p, q))
      go {m = m} false p q = inr (m, (p, q))

  pub halts : {P : Bool → Run → Run → Type 0} {s m : State} {a c : A} (Q : Bool → Run → Run → Type 0) → Hears heard P false s m a c → Hears heard (Then P Q) false s m a c
  halts Q h = follows h (λ ks ls q. inl q)
