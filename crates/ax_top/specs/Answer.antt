-- What the program answers.
use Rattle.std.specs.Prelude.{ℕ, List, codes, Option, Some, None, Result, Ok, Err, Bool, true, false}
use Rattle.ax_words.specs.declared.Command.{Command}
use Rattle.ax_words.specs.declared.Command.TheVariants.{Replay, Race, Combine, Act, Gen}
use Rattle.ax_script.specs.declared.error.ScriptErr.{ScriptErr}
use Rattle.ax_script.specs.declared.script.Script.{Script}
use Rattle.ax_script.specs.ErrorText.{script_error_text}

-- the command is built, so that words which are it aren't answered by the usage line
abbrev pub is_built : Option Command → Bool
is_built None = false
is_built (Some Replay) = true
is_built (Some Race) = false
is_built (Some Combine) = true
is_built (Some Act) = false
is_built (Some (Gen seed frames ops)) = true

-- the command reads the source
abbrev pub is_reading : Option Command → Bool
is_reading None = false
is_reading (Some Replay) = true
is_reading (Some Race) = false
is_reading (Some Combine) = true
is_reading (Some Act) = false
is_reading (Some (Gen seed frames ops)) = false

-- the command makes a script
abbrev pub is_making : Option Command → Bool
is_making None = false
is_making (Some Replay) = false
is_making (Some Race) = false
is_making (Some Combine) = false
is_making (Some Act) = false
is_making (Some (Gen seed frames ops)) = true

abbrev pub usage_text : List ℕ
usage_text = codes "usage: ax_tool replay | race | combine | act | gen SEED FRAMES OPS\n"

-- the text of what the bytes are: that of a script's run, or the line of the refusal
abbrev pub text_of : (Script → Option (List ℕ)) → Result Script ScriptErr → Option (List ℕ)
text_of told (Ok s) = told s
text_of told (Err e) = Some (script_error_text e)
