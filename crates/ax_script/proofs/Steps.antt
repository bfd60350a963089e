-- How the trees of frames are gathered, and what bytes read as.
pub use Rattle.ax_json.proofs.Walks.{under_gives}
use Rattle.std.proofs.Common.{◌≡◌, ◌≤◌, ◌⊎◌, inl, inr, ℕ, zero, suc, List, [], ◌∷◌, ◌++◌, drop, append_assoc, append-nil, refl, ap, sym, ◌∙◌, arith, nat_lt, string_bytes, IfSome, Err, Bool, true, false, ◌||◌, cond, length, Some, None}
use Rattle.std.proofs.Math.Path.{fun_ext}
use Rattle.std.proofs.lemmas.Bool.{le-ltb}
use Rattle.std.proofs.lemmas.Str.{IsUtf8-from_is_utf8, is_utf8-from_IsUtf8}
use Rattle.std.specs.BTreeSet.{BTreeSet, contains}
use Rattle.std.specs.List.{list_any}
use Rattle.std.specs.Ordering.{nat_cmp, is_eq}
use Rattle.std.specs.Str.{IsUtf8, is_utf8}
use Rattle.serde_json.specs.Data.{Data}
use Rattle.serde_json.specs.Read.{read}
use Rattle.ax_json.specs.declared.refusal.WalkErr.{WalkErr}
use Rattle.ax_json.specs.declared.refusal.WalkErr.TheVariants.{Refused, NoMemory as OutOfMemory}
use Rattle.ax_json.specs.Refused.{Refusal, refusal_of}
use Rattle.ax_script.specs.declared.error.ScriptErr.{ScriptErr}
use Rattle.ax_script.specs.declared.error.ScriptErr.TheVariants.{NoMemory}
use Rattle.ax_script.specs.declared.script.FrameScript.{FrameScript}
use Rattle.ax_script.specs.Drafts.{draft_of}
use Rattle.ax_script.specs.Script.{json_of, script, told}
use Rattle.ax_script.specs.Trees.{has_tree, knows, tree_or}

-- ---- trees

cond_or : (b c : Bool) → cond b true c ≡ (c || b)
cond_or true true = refl
cond_or true false = refl
cond_or false true = refl
cond_or false false = refl

pub added : (old new : BTreeSet ℕ) (k : ℕ) → ((q : ℕ) → contains nat_cmp new q ≡ cond (is_eq (nat_cmp k q)) true (contains nat_cmp old q)) → knows new ≡ tree_or k (knows old)
unfolding knows tree_or
added old new k h = fun_ext (λ q. h q ∙ cond_or (is_eq (nat_cmp k q)) (contains nat_cmp old q))

pub none_known : (set : BTreeSet ℕ) → set.keys ≡ [] → knows set ≡ has_tree []
unfolding knows has_tree
none_known set e = fun_ext (λ q. rw e)

or_nothing : (b : Bool) → (b || false) ≡ b
or_nothing true = refl
or_nothing false = refl

or_more : (a b c d : Bool) → b ≡ (c || d) → (a || b) ≡ ((a || c) || d)
or_more true b c d e = refl
or_more false b c d e = e

any_more : (xs : List FrameScript) (f : FrameScript) (t : ℕ) → list_any (λ g. is_eq (nat_cmp g.tree t)) (xs ++ f ∷ []) ≡ (list_any (λ g. is_eq (nat_cmp g.tree t)) xs || is_eq (nat_cmp f.tree t))
any_more [] f t = or_nothing (is_eq (nat_cmp f.tree t))
any_more (x ∷ xs) f t = or_more (is_eq (nat_cmp x.tree t)) _ _ _ (any_more xs f t)

pub has_more : (xs : List FrameScript) (f : FrameScript) → has_tree (xs ++ f ∷ []) ≡ tree_or f.tree (has_tree xs)
unfolding has_tree tree_or
has_more xs f = fun_ext (λ t. any_more xs f t)

-- the test, or a tree of the frames
abbrev pub trees_after : (ℕ → Bool) → List FrameScript → ℕ → Bool
trees_after test [] = test
trees_after test (f ∷ fs) = trees_after (tree_or f.tree test) fs

trees_from : (front fs : List FrameScript) → trees_after (has_tree front) fs ≡ has_tree (front ++ fs)
trees_from front [] = ap has_tree (sym (append-nil front))
trees_from front (f ∷ fs) = rw (← has_more front f) (trees_from (front ++ f ∷ []) fs ∙ ap has_tree (append_assoc front (f ∷ []) fs))

pub trees_are : (fs : List FrameScript) → trees_after (has_tree []) fs ≡ has_tree fs
trees_are fs = trees_from [] fs

-- ---- lists to their end

pub all_dropped : {A : Type 0} (n : ℕ) (xs : List A) → length xs ≤ n → drop n xs ≡ []
all_dropped zero [] h = refl
all_dropped (suc n) [] h = refl
all_dropped zero (x ∷ xs) h = absurd (omega arith)
all_dropped (suc n) (x ∷ xs) h = all_dropped n xs (omega arith)

-- ---- the whole

told_sum : (bytes : List ℕ) (d : Data) (r : Refusal) (t : ScriptErr) → nat_lt 67108864 (length bytes) ≡ false → json_of bytes ≡ Some d → draft_of d ≡ Err r → (t ≡ NoMemory) ⊎ (t ≡ told r) → (t ≡ NoMemory) ⊎ (script bytes ≡ Err t)
unfolding script
told_sum bytes d r t small json h (inl z) = inl z
told_sum bytes d r t small json h (inr z) = inr (rw (small, json, h) (ap Err (sym z)))

-- what is told of a script that the walk refuses
pub told_err : (bytes : List ℕ) (d : Data) (e : WalkErr) (t : ScriptErr) → length bytes ≤ 67108864 → json_of bytes ≡ Some d → IfSome (refusal_of e) (λ r. draft_of d ≡ Err r) → (refusal_of e ≡ None → t ≡ NoMemory)
    → IfSome (refusal_of e) (λ r. (t ≡ NoMemory) ⊎ (t ≡ told r)) → (t ≡ NoMemory) ⊎ (script bytes ≡ Err t)
told_err bytes d OutOfMemory t small json h none some = inl (none refl)
told_err bytes d (Refused fault path) t small json h none some = told_sum bytes d (record { fault = fault; path = string_bytes path }) t (le-ltb 67108864 (length bytes) small) json h some

-- ---- JSON

pub json_found : (bs : List ℕ) (d : Data) → IsUtf8 bs → read bs ≡ Some d → json_of bs ≡ Some d
unfolding json_of
json_found bs d u e = rw (is_utf8-from_IsUtf8 bs u) e

none_at : (bs : List ℕ) (b : Bool) → is_utf8 bs ≡ b → (IsUtf8 bs → read bs ≡ None) → cond b (read bs) None ≡ None
none_at bs true u e = e (IsUtf8-from_is_utf8 bs u)
none_at bs false u e = refl

pub json_none : (bs : List ℕ) → (IsUtf8 bs → read bs ≡ None) → json_of bs ≡ None
unfolding json_of
json_none bs e = none_at bs (is_utf8 bs) refl e
