-- The five parts of a finale, joined.
use Rattle.std.proofs.Common.{◌≡◌, Bool, true, false, List, [], ◌∷◌, ◌++◌, refl, sym, ap, subst, ◌∙◌}
use Rattle.ax_ask.specs.declared.line.Line.{Line}
use Rattle.ax_run_rules.specs.States.{State, Run, trees_of}
use Rattle.ax_run_rules.specs.Finale.{ops_left, packets_left, queries_left}
use Rattle.ax_core.specs.Finishing.{run_of, Then, ForEach, Turns, Serves, CatchesUp, Finishes, IsFinished, IsWithin, IsFinale}
use Rattle.ax_core.specs.Hearing.{all_heard, Hears, HearsFinale}
use Rattle.ax_core.specs.Standing.{at, IsWhole}
use Rattle.ax_core.proofs.Hearing.{here, follows, thens, halts, all_kept}
use Rattle.ax_core.proofs.Ruled.{finale_ruled}

-- the parts, each from where the one before it came to
abbrev Works : Bool → Run → Run → Type 0
Works b r e = Turns (ops_left r.state) b r e

abbrev Receives : Bool → Run → Run → Type 0
Receives b r e = Turns (packets_left r.state) b r e

abbrev ServesAll : Bool → Run → Run → Type 0
ServesAll b r e = ForEach Serves r.state.browser b r e

abbrev CatchesAll : Bool → Run → Run → Type 0
CatchesAll b r e = ForEach CatchesUp (trees_of r.state) b r e

abbrev Answers : Bool → Run → Run → Type 0
Answers b r e = Turns (queries_left r.state) b r e

-- what follows each of them
abbrev Last : Bool → Run → Run → Type 0
Last = Then CatchesAll Answers

abbrev Later : Bool → Run → Run → Type 0
Later = Then ServesAll Last

abbrev Rest : Bool → Run → Run → Type 0
Rest = Then Receives Later

module _ {A : Type 0} {heard : A → Line → A} where
  works : {b : Bool} {s m : State} {x y : A} → Hears heard (Turns (ops_left s)) b s m x y → Hears heard Works b s m x y
  works h = follows h (λ is js q. q)

  receives : {b : Bool} {s m : State} {x y : A} → Hears heard (Turns (packets_left s)) b s m x y → Hears heard Receives b s m x y
  receives h = follows h (λ is js q. q)

  serves : {b : Bool} {s m : State} {x y : A} → Hears heard (ForEach Serves s.browser) b s m x y → Hears heard ServesAll b s m x y
  serves h = follows h (λ is js q. q)

  catches : {b : Bool} {s m : State} {x y : A} → Hears heard (ForEach CatchesUp (trees_of s)) b s m x y → Hears heard CatchesAll b s m x y
  catches h = follows h (λ is js q. q)

  answers : {b : Bool} {s m : State} {x y : A} → Hears heard (Turns (queries_left s)) b s m x y → Hears heard Answers b s m x y
  answers h = follows h (λ is js q. q)

  stops : {s m : State} {a b : A} → Hears heard Finishes false s m a b → IsWithin s m
  stops h = let x = here h in record { lines = x.0; stops = x.1 }

  pub stopped_1 : {s m1 : State} {a0 a1 : A} → Hears heard (Turns (ops_left s)) false s m1 a0 a1 → IsWithin s m1
  stopped_1 h1 = stops (halts Rest (works h1))

  pub stopped_2 : {s m1 m2 : State} {a0 a1 a2 : A} → Hears heard (Turns (ops_left s)) true s m1 a0 a1 → Hears heard (Turns (packets_left m1)) false m1 m2 a1 a2 → IsWithin s m2
  stopped_2 h1 h2 = stops (thens (works h1) (halts Later (receives h2)))

  pub stopped_3 : {s m1 m2 m3 : State} {a0 a1 a2 a3 : A} → Hears heard (Turns (ops_left s)) true s m1 a0 a1 → Hears heard (Turns (packets_left m1)) true m1 m2 a1 a2
      → Hears heard (ForEach Serves m2.browser) false m2 m3 a2 a3 → IsWithin s m3
  stopped_3 h1 h2 h3 = stops (thens (works h1) (thens (receives h2) (halts Last (serves h3))))

  pub stopped_4 : {s m1 m2 m3 m4 : State} {a0 a1 a2 a3 a4 : A} → Hears heard (Turns (ops_left s)) true s m1 a0 a1 → Hears heard (Turns (packets_left m1)) true m1 m2 a1 a2
      → Hears heard (ForEach Serves m2.browser) true m2 m3 a2 a3 → Hears heard (ForEach CatchesUp (trees_of m3)) false m3 m4 a3 a4 → IsWithin s m4
  stopped_4 h1 h2 h3 h4 = stops (thens (works h1) (thens (receives h2) (thens (serves h3) (halts Answers (catches h4)))))

  all_of : {b : Bool} {s m1 m2 m3 m4 m5 : State} {a0 a1 a2 a3 a4 a5 : A} → Hears heard (Turns (ops_left s)) true s m1 a0 a1 → Hears heard (Turns (packets_left m1)) true m1 m2 a1 a2
      → Hears heard (ForEach Serves m2.browser) true m2 m3 a2 a3 → Hears heard (ForEach CatchesUp (trees_of m3)) true m3 m4 a3 a4 → Hears heard (Turns (queries_left m4)) b m4 m5 a4 a5 → Hears heard Finishes b s m5 a0 a5
  all_of h1 h2 h3 h4 h5 = thens (works h1) (thens (receives h2) (thens (serves h3) (thens (catches h4) (answers h5))))

  pub stopped_5 : {s m1 m2 m3 m4 m5 : State} {a0 a1 a2 a3 a4 a5 : A} → Hears heard (Turns (ops_left s)) true s m1 a0 a1 → Hears heard (Turns (packets_left m1)) true m1 m2 a1 a2
      → Hears heard (ForEach Serves m2.browser) true m2 m3 a2 a3 → Hears heard (ForEach CatchesUp (trees_of m3)) true m3 m4 a3 a4 → Hears heard (Turns (queries_left m4)) false m4 m5 a4 a5 → IsWithin s m5
  stopped_5 h1 h2 h3 h4 h5 = stops (all_of h1 h2 h3 h4 h5)

  pub finished : {s m1 m2 m3 m4 m5 : State} {a0 a1 a2 a3 a4 a5 : A} → Hears heard (Turns (ops_left s)) true s m1 a0 a1 → Hears heard (Turns (packets_left m1)) true m1 m2 a1 a2
      → Hears heard (ForEach Serves m2.browser) true m2 m3 a2 a3 → Hears heard (ForEach CatchesUp (trees_of m3)) true m3 m4 a3 a4 → Hears heard (Turns (queries_left m4)) true m4 m5 a4 a5 → HearsFinale heard s m5 a0 a5
  finished {s = s} {m5 = m5} {a0 = a0} h1 h2 h3 h4 h5 =
      let x = (all_of h1 h2 h3 h4 h5).behind a0 [] refl in
      record { lines = x.0; told = x.1.1; finished = x.1.0; ruled = λ w. (finale_ruled (at s) (run_of m5 x.0) w x.1.0).is }

  pub whole : {s e : State} {a b : A} → HearsFinale heard s e a b → IsWhole s → IsWhole e
  whole {s = s} {e = e} h w = (finale_ruled (at s) (run_of e h.lines) w h.finished).whole

-- ---- a list that heard the finale

abbrev keeps : List Line → Line → List Line
keeps ls l = ls ++ l ∷ []

its_lines : {s e : State} {a b : List Line} → a ≡ [] → (h : HearsFinale keeps s e a b) → h.lines ≡ b
its_lines {b = b} none h = sym (h.told ∙ (ap (λ ls. all_heard keeps ls h.lines) none ∙ all_kept [] h.lines))

pub list_finished : {s e : State} {a b : List Line} → a ≡ [] → HearsFinale keeps s e a b → IsFinished s e b
list_finished {s = s} {e = e} none h = subst (λ ls. IsFinished s e ls) (its_lines none h) h.finished

pub list_ruled : {s e : State} {a b : List Line} → a ≡ [] → HearsFinale keeps s e a b → IsWhole s → IsFinale s e b
list_ruled {s = s} {e = e} none h w = subst (λ ls. IsFinale s e ls) (its_lines none h) (h.ruled w)
