-- The lines of a text, as the program cuts them off, and the fields of a line that are still to be read.
use Rattle.std.specs.Prelude.{◌≡◌, ℕ, ◌<◌, List, [], length, drop, Some, None, Option, IfSome}
use Rattle.std.specs.Option.{option_map}
use Rattle.text.specs.declared.field.Fields.{Fields}
use Rattle.text.specs.declared.line.Line.{Line}
use Rattle.text.specs.declared.line.Lines.{Lines}
use Rattle.text.specs.Csv.{fields, lines, first_line, rest_of}

abbrev pub body_of : Line → List ℕ
body_of l = l.body.now

-- the line knows how many fields it has, and what comes after it
pub record Off (text : List ℕ) (l : Line) : Type 0 where
  pub count : l.fields ≡ length (fields (body_of l))
  pub after : lines l.rest.now ≡ drop 1 (lines text)
  pub less : length l.rest.now < length text

-- what comes next: nothing at the end of the text, and else its first line, or none where that is broken
abbrev pub NextLine : Lines → Option (Option Line) → Lines → Type 0
NextLine before None after = before.rest.now ≡ []
NextLine before (Some line) after =
    (0 < length before.rest.now) × (option_map body_of line ≡ first_line (lines before.rest.now))
    × IfSome line (λ l. (l.fields ≡ length (fields (body_of l))) × (lines after.rest.now ≡ drop 1 (lines before.rest.now)))

abbrev pub to_come : Fields → List (List ℕ)
to_come f = fields f.rest.now

-- one field more was read of the same line
pub record OneRead (before after : Fields) : Type 0 where
  pub fields : to_come after ≡ rest_of (to_come before)
  pub line : after.line ≡ before.line
