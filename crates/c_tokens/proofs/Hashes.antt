-- Lines that begin with `#`, as their parts.
use Rattle.std.proofs.Common.{◌≡◌, ◌≢◌, ◌⊎◌, ℕ, ◌+◌, ◌-◌, ◌≤◌, Bool, true, ◌==◌, List, [], ◌∷◌, ◌++◌, Option, Some, None, length, inl, inr, refl, sym, ap, ◌∙◌, append_assoc, arith, length-append}
use Rattle.std.specs.Prelude.{codes}
use Rattle.std.specs.List.{prefix_len}
use Rattle.std.proofs.lemmas.Bool.{cond-false, cond-true, cond_both, eqb-true, true≢false}
use Rattle.std.proofs.lemmas.List.{drop_at}
use Rattle.std.proofs.lemmas.List.Elements.{All-head}
use Rattle.c_tokens.specs.language.Bytes.{after, begins, is_gap, is_word, past}
use Rattle.c_tokens.specs.language.Blanks.{further}
use Rattle.c_tokens.specs.workings.Lines.{before, before_end, either, ended, file_rest, include_len, include_rest, next_word, omp_rest, pragma_len, pragma_rest, tail_len}
use Rattle.c_tokens.specs.workings.Lines.Tail.{Gaps}
use Rattle.c_tokens.specs.language.Pieces.{IsFile, IsInclude, IsPragma, Passes, StopsAt, hash}
use Rattle.c_tokens.proofs.Cuts.{Cut, length-run, run}
use Rattle.c_tokens.proofs.LineTails.{further-some, tail_found, tail_read}

after_found : (word bytes rest : List ℕ) → after word bytes ≡ Some rest → bytes ≡ word ++ rest
after_found [] bytes rest found = cc
after_found (letter ∷ word) [] rest found = absurd (cc)
after_found (letter ∷ word) (byte ∷ bytes) rest found =
    cond_both (letter == byte) (after word bytes) None (λ r. r ≡ Some rest → byte ∷ bytes ≡ letter ∷ (word ++ rest))
    (λ same here. let more = after_found word bytes rest here in let first = eqb-true letter byte same in cc)
    (λ other here. absurd (cc))
    found

-- what is behind a run of bytes
past-run : (test : ℕ → Bool) (front rest : List ℕ) → Passes test front → StopsAt test rest → past test (front ++ rest) ≡ rest
past-run test front rest all stops = drop_at front rest (prefix_len test (front ++ rest)) (sym (length-run test front rest all stops))

record Word (word bytes rest : List ℕ) : Type 0 where
  gaps : List ℕ
  whole : bytes ≡ gaps ++ (word ++ rest)
  are_gaps : Passes is_gap gaps

next_found : (word bytes rest : List ℕ) → next_word word bytes ≡ Some rest → Word word bytes rest
next_found word bytes rest found =
    let cut = run is_gap bytes in
    let left : past is_gap bytes ≡ cut.rest = ap (past is_gap) cut.whole ∙ past-run is_gap cut.front cut.rest cut.holds.0 cut.holds.1 in
    let stands = after_found word cut.rest rest (ap (after word) (sym left) ∙ found) in
    record { gaps = cut.front; whole = cut.whole ∙ ap (λ (end : List ℕ). cut.front ++ end) stands; are_gaps = cut.holds.0 }

-- what follows blanks
next_read : (word gaps rest : List ℕ) → Passes is_gap gaps → StopsAt is_gap rest → next_word word (gaps ++ rest) ≡ after word rest
next_read word gaps rest all stops = ap (after word) (past-run is_gap gaps rest all stops)

either-some : (first second : Option (List ℕ)) (rest : List ℕ) → either first second ≡ Some rest → (first ≡ Some rest) ⊎ (second ≡ Some rest)
either-some None second rest found = inr found
either-some (Some other) second rest found = inl found

record Included (bytes rest : List ℕ) : Type 0 where
  name : List ℕ
  is_file : IsFile name
  word : Word name bytes rest

file_found : (bytes rest : List ℕ) → file_rest (Some bytes) ≡ Some rest → Included bytes rest
file_found bytes rest found = elim (either-some (next_word (codes "<omp.h>") bytes) (next_word (codes "<stdio.h>") bytes) rest found) [
  | inl omp ↦ record { name = codes "<omp.h>"; is_file = inl refl; word = next_found (codes "<omp.h>") bytes rest omp }
  | inr stdio ↦ record { name = codes "<stdio.h>"; is_file = inr refl; word = next_found (codes "<stdio.h>") bytes rest stdio }
]

file_rest-some : (word : Option (List ℕ)) (rest : List ℕ) → file_rest word ≡ Some rest → (bytes : List ℕ) × (word ≡ Some bytes) × (file_rest (Some bytes) ≡ Some rest)
file_rest-some None rest found = absurd (cc)
file_rest-some (Some bytes) rest found = (bytes, refl, found)

before_end-some : (whole : ℕ) (word : Option (List ℕ)) (count : ℕ) → before_end whole word ≡ Some count → (rest : List ℕ) × (n : ℕ) × (word ≡ Some rest) × (tail_len Gaps rest ≡ Some n) × (whole - length rest + n ≡ count)
before_end-some whole None count found = absurd (cc)
before_end-some whole (Some rest) count found =
    let tail = further-some (whole - length rest) (tail_len Gaps rest) count found in
    (rest, tail.0, refl, tail.1, tail.2)

-- the parts of an include
include_parts : (first second name tail rest : List ℕ) → (first ++ codes "include" ++ second ++ name ++ tail) ++ rest ≡ first ++ (codes "include" ++ (second ++ (name ++ (tail ++ rest))))
include_parts first second name tail rest = simp append_assoc

pub include_found : (bytes : List ℕ) (count : ℕ) → include_len (hash ∷ bytes) ≡ Some count → Cut (hash ∷ bytes) count IsInclude
include_found bytes count found =
    let line = before_end-some (length bytes + 1) (include_rest bytes) count found in
    let end = line.0 in
    let n = line.1 in
    let behind = file_rest-some (next_word (codes "include") bytes) end line.2 in
    let word = next_found (codes "include") bytes behind.0 behind.1 in
    let file = file_found behind.0 end behind.2 in
    let tail = tail_found end n line.3 in
    let inside : List ℕ = word.gaps ++ codes "include" ++ file.word.gaps ++ file.name ++ tail.front in
    let whole : bytes ≡ inside ++ tail.rest =
    word.whole ∙ ap (λ (e : List ℕ). word.gaps ++ (codes "include" ++ e)) (file.word.whole ∙ ap (λ (e : List ℕ). file.word.gaps ++ (file.name ++ e)) tail.whole) ∙ sym (include_parts word.gaps file.word.gaps file.name tail.front tail.rest) in
    let after_include : length behind.0 ≤ length bytes = omega (arith, ap length word.whole, length-append word.gaps (codes "include" ++ behind.0)) in
    let after_file : length end ≤ length behind.0 = omega (arith, ap length file.word.whole, length-append file.word.gaps (file.name ++ end), length-append file.name end) in
    let after_tail : length end ≡ n + length tail.rest = omega (arith, ap length tail.whole, length-append tail.front tail.rest, tail.counted) in
    let counted : length inside + length tail.rest ≡ length bytes = omega (arith, ap length whole, length-append inside tail.rest) in
    record {
      front = hash ∷ inside;
      rest = tail.rest;
      whole = ap (λ (e : List ℕ). hash ∷ e) whole;
      counted = omega (arith, line.4, after_include, after_file, after_tail, counted);
      holds = (word.gaps, file.word.gaps, file.name, tail.front, refl, word.are_gaps, file.word.are_gaps, file.is_file, tail.holds);
    }

file_read : (gaps name rest : List ℕ) → Passes is_gap gaps → IsFile name → file_rest (Some (gaps ++ (name ++ rest))) ≡ Some rest
file_read gaps name rest all (inl is_omp) =
    let whole = gaps ++ (codes "<omp.h>" ++ rest) in
    ap (λ (n : List ℕ). file_rest (Some (gaps ++ (n ++ rest)))) is_omp
    ∙ ap (λ (o : Option (List ℕ)). either o (next_word (codes "<stdio.h>") whole)) (next_read (codes "<omp.h>") gaps (codes "<omp.h>" ++ rest) all refl)
file_read gaps name rest all (inr is_stdio) =
    let whole = gaps ++ (codes "<stdio.h>" ++ rest) in
    ap (λ (n : List ℕ). file_rest (Some (gaps ++ (n ++ rest)))) is_stdio
    ∙ ap (λ (o : Option (List ℕ)). either o (next_word (codes "<stdio.h>") whole)) (next_read (codes "<omp.h>") gaps (codes "<stdio.h>" ++ rest) all refl)
    ∙ next_read (codes "<stdio.h>") gaps (codes "<stdio.h>" ++ rest) all refl

pub include_read : (front rest : List ℕ) → IsInclude front rest → include_len (front ++ rest) ≡ Some (length front)
include_read front rest (first, second, name, tail, same, gaps, more_gaps, is_file, is_tail) =
    let end = tail ++ rest in
    let behind = second ++ (name ++ end) in
    let bytes = first ++ (codes "include" ++ behind) in
    let parts = include_parts first second name tail rest in
    let inside : List ℕ = first ++ codes "include" ++ second ++ name ++ tail in
    let shape : front ++ rest ≡ hash ∷ bytes = ap (λ (f : List ℕ). f ++ rest) same ∙ ap (λ (e : List ℕ). hash ∷ e) parts in
    let included : include_rest bytes ≡ Some end = ap file_rest (next_read (codes "include") first (codes "include" ++ behind) gaps refl) ∙ file_read second name end more_gaps is_file in
    let whole : length inside + length rest ≡ length bytes = omega (arith, ap length parts, length-append inside rest) in
    let counted : length bytes + 1 - length end + length tail ≡ length front = omega (arith, ap length same, whole, length-append tail rest, length-append (first ++ codes "include" ++ second ++ name) tail) in
    ap include_len shape ∙ ap (before_end (length bytes + 1)) included ∙ ap (further (length bytes + 1 - length end)) (tail_read is_tail) ∙ ap Some counted

before-some : (whole : ℕ) (word : Option (List ℕ)) (count : ℕ) → before whole word ≡ Some count → (rest : List ℕ) × (word ≡ Some rest) × (whole - length rest ≡ count)
before-some whole None count found = absurd (cc)
before-some whole (Some rest) count found = (rest, refl, cc)

ended-some : (word : Option (List ℕ)) (rest : List ℕ) → ended word ≡ Some rest → (word ≡ Some rest) × StopsAt is_word rest
ended-some None rest found = absurd (cc)
ended-some (Some other) rest found =
    cond_both (begins is_word other) None (Some other) (λ r. r ≡ Some rest → (◌≡◌ {A = Option (List ℕ)} (Some other) (Some rest)) × StopsAt is_word rest)
    (λ goes here. absurd (cc))
    (λ stops here. let same : other ≡ rest = cc in (here, ap (begins is_word) (sym same) ∙ stops))
    found

omp_rest-some : (word : Option (List ℕ)) (rest : List ℕ) → omp_rest word ≡ Some rest → (bytes : List ℕ) × (word ≡ Some bytes) × (begins is_gap bytes ≡ true) × (ended (next_word (codes "omp") bytes) ≡ Some rest)
omp_rest-some None rest found = absurd (cc)
omp_rest-some (Some bytes) rest found =
    cond_both (begins is_gap bytes) (ended (next_word (codes "omp") bytes)) None (λ r. r ≡ Some rest → (b : List ℕ) × (◌≡◌ {A = Option (List ℕ)} (Some bytes) (Some b)) × (begins is_gap b ≡ true) × (ended (next_word (codes "omp") b) ≡ Some rest))
    (λ parted here. (bytes, refl, parted, here))
    (λ other here. absurd (cc))
    found

-- the parts of the head of a directive
pragma_parts : (first second rest : List ℕ) → (first ++ codes "pragma" ++ second ++ codes "omp") ++ rest ≡ first ++ (codes "pragma" ++ (second ++ (codes "omp" ++ rest)))
pragma_parts first second rest = simp append_assoc

pub pragma_found : (bytes : List ℕ) (count : ℕ) → pragma_len (hash ∷ bytes) ≡ Some count → Cut (hash ∷ bytes) count IsPragma
pragma_found bytes count found =
    let head = before-some (length bytes + 1) (pragma_rest bytes) count found in
    let rest = head.0 in
    let behind = omp_rest-some (next_word (codes "pragma") bytes) rest head.1 in
    let stops = ended-some (next_word (codes "omp") behind.0) rest behind.3 in
    let word = next_found (codes "pragma") bytes behind.0 behind.1 in
    let omp = next_found (codes "omp") behind.0 rest stops.0 in
    let inside : List ℕ = word.gaps ++ codes "pragma" ++ omp.gaps ++ codes "omp" in
    let whole : bytes ≡ inside ++ rest = word.whole ∙ ap (λ (e : List ℕ). word.gaps ++ (codes "pragma" ++ e)) omp.whole ∙ sym (pragma_parts word.gaps omp.gaps rest) in
    record {
      front = hash ∷ inside;
      rest = rest;
      whole = ap (λ (e : List ℕ). hash ∷ e) whole;
      counted = omega (arith, head.2, ap length whole, length-append inside rest);
      holds = (word.gaps, omp.gaps, refl, word.are_gaps, omp.are_gaps, λ none. true≢false (sym behind.2 ∙ ap (begins is_gap) (omp.whole ∙ ap (λ (g : List ℕ). g ++ (codes "omp" ++ rest)) none)), stops.1);
    }

begins_gap : (gaps rest : List ℕ) → Passes is_gap gaps → gaps ≢ [] → begins is_gap (gaps ++ rest) ≡ true
begins_gap [] rest all some = absurd (some refl)
begins_gap (byte ∷ gaps) rest all some = All-head (λ b. is_gap b ≡ true) byte gaps all

pub pragma_read : (front rest : List ℕ) → IsPragma front rest → (include_len (front ++ rest) ≡ None) × (pragma_len (front ++ rest) ≡ Some (length front))
pragma_read front rest (first, second, same, gaps, more_gaps, some, stops) =
    let end = codes "omp" ++ rest in
    let behind = second ++ end in
    let bytes = first ++ (codes "pragma" ++ behind) in
    let parts = pragma_parts first second rest in
    let inside : List ℕ = first ++ codes "pragma" ++ second ++ codes "omp" in
    let shape : front ++ rest ≡ hash ∷ bytes = ap (λ (f : List ℕ). f ++ rest) same ∙ ap (λ (e : List ℕ). hash ∷ e) parts in
    let omp : omp_rest (Some behind) ≡ Some rest =
    cond-true (begins is_gap behind) (ended (next_word (codes "omp") behind)) None (begins_gap second end more_gaps some)
    ∙ ap ended (next_read (codes "omp") second end more_gaps refl) ∙ cond-false (begins is_word rest) None (Some rest) stops in
    let headed : pragma_rest bytes ≡ Some rest = ap omp_rest (next_read (codes "pragma") first (codes "pragma" ++ behind) gaps refl) ∙ omp in
    let not_included : include_rest bytes ≡ None = ap file_rest (next_read (codes "include") first (codes "pragma" ++ behind) gaps refl) in
    let counted : length bytes + 1 - length rest ≡ length front = omega (arith, ap length same, ap length parts, length-append inside rest) in
    (ap include_len shape ∙ ap (before_end (length bytes + 1)) not_included, ap pragma_len shape ∙ ap (before (length bytes + 1)) headed ∙ ap Some counted)
