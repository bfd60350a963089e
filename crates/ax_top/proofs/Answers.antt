-- What a refusal is of the bytes.
use Rattle.std.proofs.Common.{◌≡◌, inl, inr, Result, Err}
use Rattle.ax_script.specs.declared.error.ScriptErr.{ScriptErr}
use Rattle.ax_script.specs.declared.error.ScriptErr.TheVariants.{NoMemory}
use Rattle.ax_script.specs.declared.script.Script.{Script}
use Rattle.ax_script.specs.Script.{GivesScript}

pub refusal_is : (e : ScriptErr) (read : Result Script ScriptErr) → GivesScript (Err e) read → (e ≡ NoMemory → ⊥) → read ≡ Err e
refusal_is e read (inl none) why = absurd (why none)
refusal_is e read (inr is) why = is
