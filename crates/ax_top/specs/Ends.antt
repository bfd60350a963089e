-- What stands at each end of a call, of the bytes that the source had left and of those that the sink gained, where they are told.
use Rattle.std.specs.Prelude.{◌≡◌, ℕ, List, [], Option, Some, None, Ok, Err, IfSome}
use Rattle.std.specs.Io.KnownBytes.{Appends}
use Rattle.ax_io.specs.Parts.{AppendsFront}
use Rattle.ax_words.specs.declared.Command.{Command}
use Rattle.ax_words.specs.declared.Command.TheVariants.{Replay, Race, Combine, Act, Gen}
use Rattle.ax_script.specs.declared.error.ScriptErr.{ScriptErr}
use Rattle.ax_script.specs.declared.script.Script.{Script}
use Rattle.ax_script.specs.ErrorText.{script_error_text}
use Rattle.ax_top.specs.Runs.{replay_of, script_of}
use Rattle.ax_top.specs.Endings.{combine_of}
use Rattle.ax_top.specs.Gen.{gen_text}
use Rattle.ax_top.specs.Answer.{text_of, usage_text}

-- the bytes were a script, which was read to its end, and the sink grew by the text of its run
pub record IsReplayed (told : Script → Option (List ℕ)) (bytes : List ℕ) (rest held now : Option (List ℕ)) : Type 0 where
  pub script : Script
  pub read : script_of bytes ≡ Ok script
  pub end : rest ≡ Some []
  pub text : List ℕ
  pub ran : told script ≡ Some text
  pub written : Appends held now text

abbrev pub Replayed : (Script → Option (List ℕ)) → Option (List ℕ) → Option (List ℕ) → Option (List ℕ) → Option (List ℕ) → Type 0
Replayed told left rest held now = IfSome left (λ b. IsReplayed told b rest held now)

-- the sink grew by the line of the script that these numbers make
pub record IsMade (seed frames ops : ℕ) (held now : Option (List ℕ)) : Type 0 where
  pub text : List ℕ
  pub made : gen_text seed frames ops ≡ Some text
  pub written : Appends held now text

-- the bytes were refused, and the sink grew by the refusal's line
pub record IsRefused (bytes : List ℕ) (held now : Option (List ℕ)) : Type 0 where
  pub error : ScriptErr
  pub read : script_of bytes ≡ Err error
  pub written : Appends held now (script_error_text error)

abbrev pub TellsRefusal : Option (List ℕ) → Option (List ℕ) → Option (List ℕ) → Type 0
TellsRefusal left held now = IfSome left (λ b. IsRefused b held now)

-- the text is there, and the sink grew by a first part of it
pub record WritesFront (told held now : Option (List ℕ)) : Type 0 where
  pub text : List ℕ
  pub is : told ≡ Some text
  pub front : AppendsFront held now text

-- what the command has done where it answers that all is written
abbrev pub Done : Option Command → Option (List ℕ) → Option (List ℕ) → Option (List ℕ) → Option (List ℕ) → Type 0
Done None left rest held now = ⊥
Done (Some Replay) left rest held now = Replayed replay_of left rest held now
Done (Some Race) left rest held now = ⊥
Done (Some Combine) left rest held now = Replayed combine_of left rest held now
Done (Some Act) left rest held now = ⊥
Done (Some (Gen seed frames ops)) left rest held now = IsMade seed frames ops held now

-- the sink grew by a first part of the text that the words lead to
abbrev pub WritesPart : Option Command → Option (List ℕ) → Option (List ℕ) → Option (List ℕ) → Type 0
WritesPart None left held now = AppendsFront held now usage_text
WritesPart (Some Replay) left held now = IfSome left (λ b. WritesFront (text_of replay_of (script_of b)) held now)
WritesPart (Some Race) left held now = AppendsFront held now usage_text
WritesPart (Some Combine) left held now = IfSome left (λ b. WritesFront (text_of combine_of (script_of b)) held now)
WritesPart (Some Act) left held now = AppendsFront held now usage_text
WritesPart (Some (Gen seed frames ops)) left held now = WritesFront (gen_text seed frames ops) held now
