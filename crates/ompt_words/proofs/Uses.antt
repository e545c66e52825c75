-- A command's walk over uses of its options. Each use is taken for what it is: its row comes last, and it is no fault.
use Rattle.std.proofs.Common.{refl, ap, subst, codes, true, false, Bool, List, Some, [], ◌∷◌, ◌++◌, ◌≡◌, ◌∙◌, ◌+◌, ℕ, map}
use Rattle.std.specs.Prelude.{None, fold, ⊤}
use Rattle.std.specs.Str.{bytes_eq}
use Rattle.std.proofs.lemmas.List.{append-nil, append_assoc}
use Rattle.clap.specs.Walk.{Held, Row, Rule, Text, Walk, at_row, has_row, idle, more_values, settled_rows, walked, with_values, without}
use Rattle.clap.specs.Simple.{Shape}
use Rattle.clap.specs.Faults.{settle_fault, turn_fault, walk_fault}
use Rattle.clap.specs.declared.builder.value_parser.Reading.{Reading}
use Rattle.clap.specs.declared.builder.value_parser.Reading.TheVariants.{AsWritten, WithoutMinus}
use Rattle.clap.specs.declared.parser.matches.ValueSource.TheVariants.{CommandLine}

-- a use: of an option its word, its id and its value; of a flag its word and its id; of a positional its id and its value
pub data Use : Type 0 where
  valued : Text → Text → Text → Use
  bare : Text → Text → Use
  placed : Text → Text → Use

-- the words of uses
abbrev pub words_of : List Use → List Text
words_of [] = []
words_of (valued word id value ∷ uses) = word ∷ value ∷ words_of uses
words_of (bare word id ∷ uses) = word ∷ words_of uses
words_of (placed id value ∷ uses) = value ∷ words_of uses

abbrev pub id_of : Use → Text
id_of (valued word id value) = id
id_of (bare word id) = id
id_of (placed id value) = id

abbrev pub new_row : Text → Reading → Text → Row
new_row id reading value = record { id = id; values = value ∷ []; count = None; source = Some CommandLine; reading = reading }

abbrev pub row_of : Use → Row
row_of (valued word id value) = new_row id WithoutMinus value
row_of (bare word id) = new_row id AsWritten (codes "true")
row_of (placed id value) = new_row id WithoutMinus value

-- the walk between two uses, where the next positional is that of this position
abbrev pub standing : ℕ → Held → Walk
standing position held = record { held = held; waiting = idle; position = position; is_trailing = false; stopped = None }

-- a positional is passed by its value alone
abbrev pub position_after : ℕ → Use → ℕ
position_after position (valued word id value) = position
position_after position (bare word id) = position
position_after position (placed id value) = position + 1

-- what is held after an option and its value, and after a flag
abbrev pub after_value : List Rule → Held → Text → Text → Held
after_value rules held id value =
    record { rows = settled_rows rules held.pending held.rows; pending = Some (id, value ∷ []); skip = held.skip }

abbrev pub after_flag : List Rule → Held → Text → Held
after_flag rules held id =
    record { rows = settled_rows rules held.pending held.rows ++ new_row id AsWritten (codes "true") ∷ []; pending = None; skip = held.skip }

-- a value that is held for an option or a positional is right, and gives its row
pub record SettlesValue (s : Shape) (id value : Text) : Type 0 where
  pub clean : (rows : List Row) (skip : ℕ) → has_row id rows ≡ false
      → settle_fault s.rules s.args_override_self (record { rows = rows; pending = Some (id, value ∷ []); skip = skip }) ≡ []
  pub gives : (rows : List Row) → has_row id rows ≡ false → settled_rows s.rules (Some (id, value ∷ [])) rows ≡ rows ++ new_row id WithoutMinus value ∷ []

-- what a command makes of an option with this value
pub record TakesValue (s : Shape) (word id value : Text) : Type 0 where
  pub walk : (position : ℕ) (held : Held) → walked s.rules [] (walked s.rules [] (standing position held) word) value ≡ standing position (after_value s.rules held id value)
  pub word_clean : (position : ℕ) (held : Held) → settle_fault s.rules s.args_override_self held ≡ [] → turn_fault s [] (standing position held) word ≡ []
  pub value_clean : (position : ℕ) (held : Held) → turn_fault s [] (walked s.rules [] (standing position held) word) value ≡ []
  pub settles : SettlesValue s id value

-- what a command makes of a flag
pub record TakesFlag (s : Shape) (word id : Text) : Type 0 where
  pub walk : (position : ℕ) (held : Held) → has_row id (settled_rows s.rules held.pending held.rows) ≡ false
      → walked s.rules [] (standing position held) word ≡ standing position (after_flag s.rules held id)
  pub clean : (position : ℕ) (held : Held) → settle_fault s.rules s.args_override_self held ≡ [] → has_row id (settled_rows s.rules held.pending held.rows) ≡ false
      → turn_fault s [] (standing position held) word ≡ []

-- what a command makes of a word that is the value of the positional of this position
pub record TakesPlaced (s : Shape) (position : ℕ) (id value : Text) : Type 0 where
  pub walk : (held : Held) → walked s.rules [] (standing position held) value ≡ standing (position + 1) (after_value s.rules held id value)
  pub clean : (held : Held) → settle_fault s.rules s.args_override_self held ≡ [] → turn_fault s [] (standing position held) value ≡ []
  pub settles : SettlesValue s id value

-- what a command makes of a use
abbrev pub Takes : Shape → ℕ → Use → Type 0
Takes s position (valued word id value) = TakesValue s word id value
Takes s position (bare word id) = TakesFlag s word id
Takes s position (placed id value) = TakesPlaced s position id value

-- each use is taken, and there is no row of its id before it
abbrev pub AreTaken : Shape → ℕ → List Row → List Use → Type 0
AreTaken s position rows [] = ⊤
AreTaken s position rows (use' ∷ uses) =
    (has_row (id_of use') rows ≡ false) × Takes s position use' × AreTaken s (position_after position use') (rows ++ row_of use' ∷ []) uses

-- ---- rows without an id

-- what is missing comes last
pub at_missing_row : (id : Text) (change : Row → List Row) (missing : List Row) (rows : List Row) → has_row id rows ≡ false
    → at_row id change missing rows ≡ rows ++ missing
at_missing_row id change missing [] none = refl
at_missing_row id change missing (row ∷ rows) none = by (bytes_eq row.id id) refl (λ rest. at_missing_row id change missing rows rest)
  where
    by : (same : Bool) → bytes_eq row.id id ≡ same → (has_row id rows ≡ false → at_row id change missing rows ≡ rows ++ missing)
        → at_row id change missing (row ∷ rows) ≡ (row ∷ rows) ++ missing
    by true is later = let wrong : true ≡ false = rw is at none in cc
    by false is later = rw is (ap (λ more. row ∷ more) (later (rw is at none)))

pub new_row_last : (id : Text) (reading : Reading) (value : Text) (rows : List Row) → has_row id rows ≡ false
    → with_values id reading CommandLine (value ∷ []) (without id rows) ≡ rows ++ new_row id reading value ∷ []
new_row_last id reading value rows none =
    let same : without id rows ≡ rows = at_missing_row id (λ row. []) [] rows none ∙ append-nil rows in
    ap (with_values id reading CommandLine (value ∷ [])) same ∙ at_missing_row id (more_values CommandLine (value ∷ [])) (new_row id reading value ∷ []) rows none

-- ---- the walk

-- the walk stands between two uses, with these rows
pub record IsBetween (s : Shape) (held : Held) (rows : List Row) : Type 0 where
  pub rows_are : settled_rows s.rules held.pending held.rows ≡ rows
  pub clean : settle_fault s.rules s.args_override_self held ≡ []
  pub none_skipped : held.skip ≡ 0

-- a word that is no fault leaves those of the words behind it
one_turn : (s : Shape) (from : Walk) (a : Text) (rest : List Text) → turn_fault s [] from a ≡ []
    → walk_fault s [] from (a ∷ rest) ≡ walk_fault s [] (walked s.rules [] from a) rest
unfolding walk_fault
one_turn s from a rest e = rw e refl

-- where the walk comes by these uses from here
pub record Walks (s : Shape) (uses : List Use) (position : ℕ) (held : Held) (rows : List Row) : Type 0 where
  pub end_position : ℕ
  pub end : Held
  pub reaches : fold (walked s.rules []) (standing position held) (words_of uses) ≡ standing end_position end
  pub clean : (more : List Text) → walk_fault s [] (standing position held) (words_of uses ++ more) ≡ walk_fault s [] (standing end_position end) more
  pub between : IsBetween s end (rows ++ map row_of uses)

-- after a value the walk stands between two uses again
after_settling : (s : Shape) (held : Held) (rows : List Row) (id value : Text) → IsBetween s held rows → has_row id rows ≡ false → SettlesValue s id value
    → IsBetween s (after_value s.rules held id value) (rows ++ new_row id WithoutMinus value ∷ [])
after_settling s held rows id value here fresh settles =
    let none : has_row id (settled_rows s.rules held.pending held.rows) ≡ false = rw here.rows_are fresh in
    record {
      rows_are = settles.gives (settled_rows s.rules held.pending held.rows) none ∙ ap (λ front. front ++ new_row id WithoutMinus value ∷ []) here.rows_are;
      clean = settles.clean (settled_rows s.rules held.pending held.rows) held.skip none;
      none_skipped = here.none_skipped;
    }

pub walks : (s : Shape) (uses : List Use) (position : ℕ) (held : Held) (rows : List Row) → IsBetween s held rows → AreTaken s position rows uses → Walks s uses position held rows
walks s [] position held rows here taken = record { end_position = position; end = held; reaches = refl; clean = λ more. refl; between = rw (append-nil rows) here }
walks s (valued word id value ∷ uses) position held rows here taken =
    let after : Held = after_value s.rules held id value in
    let option : TakesValue s word id value = taken.1 in
    let there : IsBetween s after (rows ++ new_row id WithoutMinus value ∷ []) = after_settling s held rows id value here taken.0 option.settles in
    let rest : Walks s uses position after (rows ++ new_row id WithoutMinus value ∷ []) = walks s uses position after (rows ++ new_row id WithoutMinus value ∷ []) there taken.2 in
    record {
      end_position = rest.end_position;
      end = rest.end;
      reaches = ap (λ from. fold (walked s.rules []) from (words_of uses)) (option.walk position held) ∙ rest.reaches;
      clean = λ more. one_turn s (standing position held) word (value ∷ words_of uses ++ more) (option.word_clean position held here.clean)
          ∙ one_turn s (walked s.rules [] (standing position held) word) value (words_of uses ++ more) (option.value_clean position held)
          ∙ ap (λ from. walk_fault s [] from (words_of uses ++ more)) (option.walk position held) ∙ rest.clean more;
      between = subst (IsBetween s rest.end) (append_assoc rows (new_row id WithoutMinus value ∷ []) (map row_of uses)) rest.between;
    }
walks s (bare word id ∷ uses) position held rows here taken =
    let after : Held = after_flag s.rules held id in
    let flag : TakesFlag s word id = taken.1 in
    let none : has_row id (settled_rows s.rules held.pending held.rows) ≡ false = rw here.rows_are taken.0 in
    let there : IsBetween s after (rows ++ new_row id AsWritten (codes "true") ∷ []) = record {
      rows_are = ap (λ front. front ++ new_row id AsWritten (codes "true") ∷ []) here.rows_are;
      clean = refl;
      none_skipped = here.none_skipped;
    } in
    let rest : Walks s uses position after (rows ++ new_row id AsWritten (codes "true") ∷ []) = walks s uses position after (rows ++ new_row id AsWritten (codes "true") ∷ []) there taken.2 in
    record {
      end_position = rest.end_position;
      end = rest.end;
      reaches = ap (λ from. fold (walked s.rules []) from (words_of uses)) (flag.walk position held none) ∙ rest.reaches;
      clean = λ more. one_turn s (standing position held) word (words_of uses ++ more) (flag.clean position held here.clean none)
          ∙ ap (λ from. walk_fault s [] from (words_of uses ++ more)) (flag.walk position held none) ∙ rest.clean more;
      between = subst (IsBetween s rest.end) (append_assoc rows (new_row id AsWritten (codes "true") ∷ []) (map row_of uses)) rest.between;
    }
walks s (placed id value ∷ uses) position held rows here taken =
    let after : Held = after_value s.rules held id value in
    let place : TakesPlaced s position id value = taken.1 in
    let there : IsBetween s after (rows ++ new_row id WithoutMinus value ∷ []) = after_settling s held rows id value here taken.0 place.settles in
    let rest : Walks s uses (position + 1) after (rows ++ new_row id WithoutMinus value ∷ []) = walks s uses (position + 1) after (rows ++ new_row id WithoutMinus value ∷ []) there taken.2 in
    record {
      end_position = rest.end_position;
      end = rest.end;
      reaches = ap (λ from. fold (walked s.rules []) from (words_of uses)) (place.walk held) ∙ rest.reaches;
      clean = λ more. one_turn s (standing position held) value (words_of uses ++ more) (place.clean held here.clean)
          ∙ ap (λ from. walk_fault s [] from (words_of uses ++ more)) (place.walk held) ∙ rest.clean more;
      between = subst (IsBetween s rest.end) (append_assoc rows (new_row id WithoutMinus value ∷ []) (map row_of uses)) rest.between;
    }
