-- How a refused script is told.
use Rattle.std.specs.Prelude.{ℕ, List, [], ◌++◌, codes, encode_utf8_all}
use Rattle.std.specs.Fmt.{decimal}
use Rattle.ax_script.specs.declared.error.ScriptErr.{ScriptErr}
use Rattle.ax_script.specs.declared.error.ScriptErr.TheVariants.{TooBig, NotJson, UnknownMember, Missing, BadType, BadCount, BadNumber, BadName, TooManyOps, BadOrder, NotBuilt, NoMemory}

-- a kind of refusal with the path to its place, or with its number
unfoldable pub at_path : List ℕ → List ℕ → List ℕ
at_path kind path = codes "script " ++ (kind ++ (codes " " ++ (encode_utf8_all path ++ codes "\n")))

unfoldable pub at_number : List ℕ → ℕ → List ℕ
at_number kind n = codes "script " ++ (kind ++ (codes " " ++ (decimal n ++ codes "\n")))

-- the line of a refusal; want of memory is none, and has no text
abbrev pub script_error_text : ScriptErr → List ℕ
script_error_text (TooBig n) = at_number (codes "TooBig") n
script_error_text NotJson = codes "script NotJson\n"
script_error_text (UnknownMember p) = at_path (codes "UnknownMember") p
script_error_text (Missing p) = at_path (codes "Missing") p
script_error_text (BadType p) = at_path (codes "BadType") p
script_error_text (BadCount p) = at_path (codes "BadCount") p
script_error_text (BadNumber p) = at_path (codes "BadNumber") p
script_error_text (BadName p) = at_path (codes "BadName") p
script_error_text (TooManyOps n) = at_number (codes "TooManyOps") n
script_error_text (BadOrder i) = at_number (codes "BadOrder") i
script_error_text (NotBuilt p) = at_path (codes "NotBuilt") p
script_error_text NoMemory = []
