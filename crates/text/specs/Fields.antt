-- A field of a line: a stretch of the text, told as a number, a letter or neither.
use Rattle.std.specs.Prelude.{ℕ, Bool, cond, not, ◌&&◌, ◌||◌, List, [], ◌∷◌, length, Some, None, Option, ◌==◌, nat_le, nat_lt, slice_index}
use Rattle.std.specs.Str.Parse.{digits_value}
use Rattle.std.specs.Char.{is_ascii_alphabetic}
use Rattle.std.specs.Str.{all_ascii_digits}
use Rattle.records.specs.Letters.{among}
use Rattle.text.specs.declared.field.Field.{Field}
use Rattle.text.specs.declared.field.Field.TheVariants.{Number, Letter, Bad}

pub data Kind : Type 0 where
  number : List ℕ → Kind
  letter : List ℕ → Kind
  neither : List ℕ → Kind

-- what a field of the program is: its case, and the stretch that it borrows
abbrev pub kind : Field → Kind
kind (Number s) = number s.now
kind (Letter s) = letter s.now
kind (Bad s) = neither s.now

-- digits are a number, one letter of the alphabet is a letter
abbrev pub kind_of : List ℕ → Kind
kind_of s =
    cond (nat_lt 0 (length s) && all_ascii_digits s) (number s)
    (cond (length s == 1 && is_ascii_alphabetic (slice_index s 0)) (letter s) (neither s))

-- the number up to the most that a stretch writes: digits, with no 0 ahead of a digit
abbrev pub no_zero_ahead : List ℕ → Bool
no_zero_ahead s = not (slice_index s 0 == 48) || length s == 1

abbrev pub numeral : ℕ → List ℕ → Option ℕ
numeral most s =
    cond (nat_lt 0 (length s) && (all_ascii_digits s && (no_zero_ahead s && nat_le (digits_value 10 s) most))) (Some (digits_value 10 s)) None

-- what a column of numbers up to the most takes, and what one of these letters does
abbrev pub number_in : ℕ → Kind → Option ℕ
number_in most (number s) = numeral most s
number_in most (letter s) = None
number_in most (neither s) = None

abbrev pub letter_in : List ℕ → Kind → Option ℕ
letter_in ls (number s) = None
letter_in ls (letter []) = None
letter_in ls (letter (c ∷ cs)) = cond (among c ls) (Some c) None
letter_in ls (neither s) = None
