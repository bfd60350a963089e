-- What the finale and the dump append.
use Rattle.std.proofs.Common.{ℕ, ◌≡◌, List, [], ◌∷◌, ◌++◌, refl, sym, ap, ap₂, subst, ◌∙◌, append_assoc, Result, Ok, Err, OnOk}
use Rattle.std.specs.Prelude.{codes}
use Rattle.std.proofs.lemmas.List.{append-nil}
use Rattle.ax_base.specs.declared.seq.NoMemory.{NoMemory}
use Rattle.ax_trees.specs.Lists.{NoneTwice}
use Rattle.ax_ask.specs.declared.line.Line.{Line}
use Rattle.ax_forest.specs.Past.{Past, forest_of}
use Rattle.ax_run_rules.specs.States.{State, forest_now, trees_of}
use Rattle.ax_run_rules.specs.Dump.{dump_text}
use Rattle.ax_run_rules.specs.LineText.{line_text, lines_text}
use Rattle.ax_run_rules.specs.ReplayText.{ended_text}
use Rattle.ax_report.specs.Walks.{AreTheTrees}
use Rattle.ax_core.specs.Finishing.{IsFinale}
use Rattle.ax_core.specs.Hearing.{all_heard, HearsFinale}
use Rattle.ax_core.specs.Standing.{Stands, IsWhole}
use Rattle.ax_top.specs.Running.{IsTold, IsEnded}
use Rattle.ax_top.proofs.Counting.{ids_are}

-- the forest's trees in their order, each once
are_trees : (s : State) (p : Past) (ts : List ℕ) → p ≡ record { trees = trees_of s; history = s.history } → Stands s → ts ≡ p.trees → AreTheTrees (forest_of p) ts
are_trees s p ts e h is = record {
  all = is ∙ sym (ids_are p);
  once = subst NoneTwice (sym (is ∙ ap (λ (q : Past). q.trees) e)) h.apart;
}

ends : (s new : State) (ls : List Line) (before a b c after dump : List ℕ) → IsFinale s new ls → IsWhole new
    → a ≡ before ++ codes "finale\n" → b ≡ a ++ lines_text ls → c ≡ b ++ codes "dump\n" → after ≡ c ++ dump → dump ≡ dump_text (forest_now new) → IsEnded s new before after
unfolding ended_text
ends s new ls before a b c after dump is w h i j k d = record {
  end = record { state = new; lines = ls };
  is = is;
  state = refl;
  whole = w;
  text = k ∙ (ap₂ (λ xs ys. xs ++ ys) (j ∙ ap (λ xs. xs ++ codes "dump\n") (i ∙ ap (λ xs. xs ++ lines_text ls) h)) d
      ∙ regroup before (codes "finale\n") (lines_text ls) (codes "dump\n") (dump_text (forest_now new)));
}
  where
    regroup : (p q r t u : List ℕ) → (((p ++ q) ++ r) ++ t) ++ u ≡ p ++ (q ++ (r ++ (t ++ u)))
    regroup p q r t u =
        append_assoc ((p ++ q) ++ r) t u ∙ (append_assoc (p ++ q) r (t ++ u) ∙ append_assoc p q (r ++ (t ++ u)))

pub ended : (done : Result (Unit {0}) NoMemory) (s new : State) (p : Past) (ts : List ℕ) (ls : List Line) (before a b c after : List ℕ) → IsFinale s new ls → IsWhole new
    → a ≡ before ++ codes "finale\n" → b ≡ a ++ lines_text ls → c ≡ b ++ codes "dump\n"
    → p ≡ record { trees = trees_of new; history = new.history } → forest_of p ≡ forest_now new → Stands new → ts ≡ p.trees
    → OnOk done (AreTheTrees (forest_of p) ts → after ≡ c ++ dump_text (forest_of p)) → OnOk done (IsEnded s new before after)
ended (Err e) s new p ts ls before a b c after is w h i j past now stands trees k = tt
ended (Ok u) s new p ts ls before a b c after is w h i j past now stands trees k =
    ends s new ls before a b c after (dump_text (forest_of p)) is w h i j (k (are_trees new p ts past stands trees)) (ap dump_text now)

-- a text that heard lines
heard_text : (t : List ℕ) (ls : List Line) → all_heard (λ (xs : List ℕ) (l : Line). xs ++ line_text l) t ls ≡ t ++ lines_text ls
unfolding lines_text
heard_text t [] = sym (append-nil t)
heard_text t (l ∷ ls) = heard_text (t ++ line_text l) ls ∙ append_assoc t (line_text l) (lines_text ls)

pub report_told : {s new : State} {before after : List ℕ} → IsWhole s → (IsWhole s → IsWhole new) → HearsFinale (λ (xs : List ℕ) (l : Line). xs ++ line_text l) s new before after → IsTold s new before after
report_told {before = before} whole stays h = record { lines = h.lines; is = h.ruled whole; whole = stays whole; text = h.told ∙ heard_text before h.lines }
