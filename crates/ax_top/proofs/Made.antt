-- Each made script can be run, and its run gives the line.
use Rattle.std.proofs.Common.{ℕ, zero, suc, ◌≡◌, ◌<◌, ◌≤◌, ◌+◌, ◌==◌, Bool, true, false, List, [], ◌∷◌, ◌++◌, map, refl, sym, ap, ap₂, subst, ◌∙◌, append_assoc, arith, Some}
use Rattle.std.specs.Prelude.{◌%◌, nat_lt, slice_index_or, codes}
use Rattle.std.specs.Fmt.{decimal}
use Rattle.std.specs.List.{range_with_len}
use Rattle.std.proofs.lemmas.List.Elements.{All-map}
use Rattle.std.proofs.lemmas.List.FromFn.{length-map-range_with_len}
use Rattle.ax_trees.specs.Lists.{NoneTwice, contains}
use Rattle.ax_ask.specs.Calls.{HaveLeaves, IsLeafOp}
use Rattle.ax_ask.specs.declared.line.Line.{Line}
use Rattle.ax_ask.specs.declared.op.FrameOp.TheVariants.{Pass as PassOp}
use Rattle.ax_run_rules.specs.States.{State, begin, start, forest_now}
use Rattle.ax_run_rules.specs.Finale.{finale_of, finished}
use Rattle.ax_script.specs.declared.script.FrameScript.{FrameScript}
use Rattle.ax_script.specs.Sound.{HasLeaves}
use Rattle.ax_core.specs.Standing.{at}
use Rattle.ax_core.specs.Starting.{CanRun, script_in}
use Rattle.ax_gen.specs.Draws.{draw}
use Rattle.ax_gen.specs.Ops.{kind_of, op_of}
use Rattle.ax_gen.specs.Made.{draws_before, kind_at, numbers_of, op_made, frame_before, with_last_pass, script_made}
use Rattle.ax_top.specs.declared.making.Counts.{Counts}
use Rattle.ax_top.specs.Gen.{gen_line, gen_text, nodes_of}
use Rattle.ax_top.specs.Counting.{counts_of, counts_line}

-- ---- the trees 1, 2, 3 and so on

not_equal : (a b : ℕ) → a < b → (b + 1 == a + 1) ≡ false
not_equal a b h = grind arith

above : (f : ℕ → FrameScript) → ((k : ℕ) → (f k).tree ≡ k + 1) → (n a b : ℕ) → a < b → contains (map (λ (s : FrameScript). s.tree) (map f (range_with_len b n))) (a + 1) ≡ false
above f h zero a b low = refl
above f h (suc n) a b low = rw (h b, not_equal a b low) (above f h n a (b + 1) (omega (arith, low)))

apart : (f : ℕ → FrameScript) → ((k : ℕ) → (f k).tree ≡ k + 1) → (n a : ℕ) → NoneTwice (map (λ (s : FrameScript). s.tree) (map f (range_with_len a n)))
apart f h zero a = tt
apart f h (suc n) a = (subst (λ t. contains (map (λ (s : FrameScript). s.tree) (map f (range_with_len (a + 1) n))) t ≡ false) (sym (h a)) (above f h n a (a + 1) (omega arith)), apart f h n (a + 1))

-- ---- its operations put nodes without children

op_leaf : (n first second nodes number : ℕ) (a b c d : Bool) → nat_lt n 4 ≡ a → (n == 4) ≡ b → (n == 5) ≡ c → (n == 6) ≡ d → IsLeafOp (op_of (kind_of n) first second nodes number)
op_leaf n first second nodes number true b c d h i j k = rw h refl
op_leaf n first second nodes number false true c d h i j k = rw (h, i) tt
op_leaf n first second nodes number false false true d h i j k = rw (h, i, j) tt
op_leaf n first second nodes number false false false true h i j k = rw (h, i, j, k) tt
op_leaf n first second nodes number false false false false h i j k = rw (h, i, j, k) tt

abbrev drawn : ℕ → ℕ → ℕ
drawn seed j = draw seed (draws_before seed j) % 8

made_leaf : (seed frames j : ℕ) → IsLeafOp (op_made seed frames j)
unfolding op_made kind_at
made_leaf seed frames j =
    op_leaf (drawn seed j) _ _ _ _ (nat_lt (drawn seed j) 4) (drawn seed j == 4) (drawn seed j == 5) (drawn seed j == 6) refl refl refl refl

made_leaves : (seed frames : ℕ) (js : List ℕ) → HaveLeaves (map (op_made seed frames) js ++ PassOp ∷ [])
made_leaves seed frames [] = (tt, tt)
made_leaves seed frames (j ∷ js) = (made_leaf seed frames j, made_leaves seed frames js)

frame_leaves : (seed frames ops f : ℕ) → HasLeaves (with_last_pass (frame_before seed frames ops f))
unfolding frame_before
frame_leaves seed frames ops f = (refl, made_leaves seed frames (numbers_of frames ops f))

frame_tree : (seed frames ops f : ℕ) → (with_last_pass (frame_before seed frames ops f)).tree ≡ f + 1
unfolding frame_before
frame_tree seed frames ops f = refl

pub made_runs : (seed frames ops : ℕ) → 0 < frames → CanRun (script_made seed frames ops)
unfolding script_made
made_runs seed frames ops h =
    let each : ℕ → FrameScript = λ f. with_last_pass (frame_before seed frames ops f) in
    record {
      some = subst (λ n. 1 ≤ n) (sym (length-map-range_with_len each 0 frames)) (omega (arith, h));
      apart = apart each (frame_tree seed frames ops) frames 0;
      named = tt;
      leaves = All-map HasLeaves each (range_with_len 0 frames) (λ k d low. frame_leaves seed frames ops (slice_index_or (range_with_len 0 frames) k d));
    }

-- ---- the line of its run

heads : (a b c d e f rest : List ℕ) → (a ++ (b ++ (c ++ (d ++ (e ++ f))))) ++ rest ≡ a ++ (b ++ (c ++ (d ++ (e ++ (f ++ rest)))))
heads a b c d e f rest =
    append_assoc a (b ++ (c ++ (d ++ (e ++ f)))) rest
    ∙ ap (λ xs. a ++ xs) (append_assoc b (c ++ (d ++ (e ++ f))) rest
    ∙ ap (λ xs. b ++ xs) (append_assoc c (d ++ (e ++ f)) rest
    ∙ ap (λ xs. c ++ xs) (append_assoc d (e ++ f) rest ∙ ap (λ xs. d ++ xs) (append_assoc e f rest))))

pub gen_is : (seed frames ops nodes : ℕ) (head line text : List ℕ) (from new : State) (ls : List Line) (counts : Counts)
    → from ≡ start (script_in (script_made seed frames ops)) → finale_of (at from) ≡ Some (record { state = new; lines = ls })
    → counts ≡ counts_of ls → nodes ≡ nodes_of (forest_now new)
    → head ≡ codes "gen " ++ (decimal seed ++ (codes " " ++ (decimal frames ++ (codes " " ++ decimal ops))))
    → line ≡ counts_line head counts nodes → text ≡ line → gen_text seed frames ops ≡ Some text
unfolding gen_text finished begin gen_line counts_line counts_of
gen_is seed frames ops nodes head line text from new ls counts e is c n h l t =
    rw (← e, is) (ap Some (sym (t ∙ (l ∙ (ap₂ (λ (x : Counts) (y : ℕ). counts_line head x y) c n
    ∙ (ap (λ x. counts_line x (counts_of ls) (nodes_of (forest_now new))) h
    ∙ heads (codes "gen ") (decimal seed) (codes " ") (decimal frames) (codes " ") (decimal ops) _))))))
