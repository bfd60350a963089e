-- A script is the same of all bytes and of as many as are read, and what a run says of one it says of the other.
use Rattle.std.proofs.Common.{◌≡◌, ℕ, ◌≤◌, ◌<◌, List, length, take, drop, refl, sym, ap, ◌∙◌, arith, Option, Some, None, Result, Ok, Err, Bool, true, false, nat_lt, IfSome, is_ok}
use Rattle.std.proofs.lemmas.List.{length-take, take_all, drop_all}
use Rattle.std.proofs.lemmas.Bool.{ltb-true, lt-ltb}
use Rattle.std.proofs.lemmas.Bool.Decides.{nat_tests}
use Rattle.std.specs.Io.KnownBytes.{Appends}
use Rattle.ax_io.specs.Parts.{AppendsFront}
use Rattle.ax_script.specs.declared.error.ScriptErr.{ScriptErr}
use Rattle.ax_script.specs.declared.script.Script.{Script}
use Rattle.ax_script.specs.Script.{script}
use Rattle.ax_script.specs.ErrorText.{script_error_text}
use Rattle.ax_top.specs.Runs.{if_in_turn, script_of}
use Rattle.ax_top.specs.Answer.{text_of}
use Rattle.ax_top.specs.Ends.{IsReplayed, IsRefused, Replayed, TellsRefusal, WritesFront}

not_below : (a b : ℕ) → nat_lt a b ≡ false → b ≤ a
not_below a b e = grind (arith, nat_tests)

front_at : (bs : List ℕ) (b : Bool) → nat_lt 67108864 (length bs) ≡ b → script (take 67108865 bs) ≡ script bs
unfolding script
front_at bs true e =
    let long : 67108864 < length bs = ltb-true 67108864 (length bs) e in
    let n : 67108864 < length (take 67108865 bs) = omega (arith, length-take 67108865 bs) in
    rw (lt-ltb _ _ n, e)
front_at bs false e = ap script (take_all 67108865 bs (let h : length bs ≤ 67108864 = not_below _ _ e in omega arith))

pub same_of_front : (bs : List ℕ) → script_of (take 67108865 bs) ≡ script_of bs
unfolding script_of
same_of_front bs = ap if_in_turn (front_at bs (nat_lt 67108864 (length bs)) refl)

short_at : (bs : List ℕ) (s : Script) (b : Bool) → nat_lt 67108864 (length bs) ≡ b → script_of bs ≡ Ok s → length bs ≤ 67108864
unfolding script_of script
short_at bs s true e is = let bad = rw e at is in cc
short_at bs s false e is = not_below _ _ e

pub script_is_short : (bs : List ℕ) (s : Script) → script_of bs ≡ Ok s → length bs ≤ 67108864
script_is_short bs s is = short_at bs s (nat_lt 67108864 (length bs)) refl is

replayed_at : (g : Script → Option (List ℕ)) (b text : List ℕ) (rest held now : Option (List ℕ)) (r : Result Script ScriptErr) → script_of b ≡ r → rest ≡ Some (drop 67108865 b) → true ≡ is_ok r → text_of g r ≡ Some text → Appends held now text
    → IsReplayed g b rest held now
replayed_at g b text rest held now (Ok s) is end ok t h = record {
  script = s;
  read = is;
  end = end ∙ ap Some (drop_all 67108865 b (let short : length b ≤ 67108864 = script_is_short b s is in omega arith));
  text = text;
  ran = t;
  written = h;
}
replayed_at g b text rest held now (Err r) is end ok t h = cc

pub replayed : (g : Script → Option (List ℕ)) (left rest held now : Option (List ℕ)) (bytes text : List ℕ) → IfSome left (λ l. bytes ≡ take 67108865 l) → IfSome left (λ l. rest ≡ Some (drop 67108865 l))
    → text_of g (script_of bytes) ≡ Some text → true ≡ is_ok (script_of bytes) → Appends held now text → Replayed g left rest held now
replayed g None rest held now bytes text whole end t ok h = tt
replayed g (Some b) rest held now bytes text whole end t ok h =
    let same : script_of bytes ≡ script_of b = ap script_of whole ∙ same_of_front b in
    replayed_at g b text rest held now (script_of b) refl end (ok ∙ ap is_ok same) (ap (text_of g) (sym same) ∙ t) h

refused_at : (g : Script → Option (List ℕ)) (b text : List ℕ) (held now : Option (List ℕ)) (r : Result Script ScriptErr) → script_of b ≡ r → false ≡ is_ok r → text_of g r ≡ Some text → Appends held now text
    → IsRefused b held now
refused_at g b text held now (Ok s) is ok t h = cc
refused_at g b text held now (Err e) is ok t h = record { error = e; read = is; written = rw (the_same (script_error_text e) text t) h }
  where
    the_same : (xs ys : List ℕ) → Some xs ≡ Some ys → xs ≡ ys
    the_same xs ys is = cc

pub refuses : (g : Script → Option (List ℕ)) (left held now : Option (List ℕ)) (bytes text : List ℕ) → IfSome left (λ l. bytes ≡ take 67108865 l)
    → text_of g (script_of bytes) ≡ Some text → false ≡ is_ok (script_of bytes) → Appends held now text → TellsRefusal left held now
refuses g None held now bytes text whole t ok h = tt
refuses g (Some b) held now bytes text whole t ok h =
    let same : script_of bytes ≡ script_of b = ap script_of whole ∙ same_of_front b in
    refused_at g b text held now (script_of b) refl (ok ∙ ap is_ok same) (ap (text_of g) (sym same) ∙ t) h

pub writes_front : (g : Script → Option (List ℕ)) (left held now : Option (List ℕ)) (bytes text : List ℕ) → IfSome left (λ l. bytes ≡ take 67108865 l)
    → text_of g (script_of bytes) ≡ Some text → AppendsFront held now text → IfSome left (λ b. WritesFront (text_of g (script_of b)) held now)
writes_front g None held now bytes text whole t h = tt
writes_front g (Some b) held now bytes text whole t h =
    let same : script_of bytes ≡ script_of b = ap script_of whole ∙ same_of_front b in
    record { text = text; is = ap (text_of g) (sym same) ∙ t; front = h }
