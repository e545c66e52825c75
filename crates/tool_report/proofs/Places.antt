-- A number that is written at the right of so many places.
use Rattle.std.proofs.Common.{◌≡◌, ℕ, zero, suc, ◌-◌, ◌^◌, false, List, [], ◌∷◌, ◌++◌, length, refl, ◌∙◌, ap, append_assoc, lit<, arith}
use Rattle.std.specs.Prelude.{replicate}
use Rattle.std.specs.List.{repeat}
use Rattle.std.specs.Fmt.{padded_integral, char_count, format_spec, decimal}
use Rattle.std.proofs.Math.Utf8.{encode}
use Rattle.std.proofs.lemmas.List.{append-nil}
use Rattle.std.proofs.lemmas.Str.{encode_ascii}
use Rattle.tool_report.specs.Layout.{right_in}

spaces : (n : ℕ) → repeat {A = ℕ} n (32 ∷ []) ≡ replicate n 32
spaces zero = refl
spaces (suc n) = ap (λ rest. 32 ∷ rest) (spaces n)

filled : (places before behind : ℕ) (text : List ℕ) → before ≡ places → behind ≡ 0 → (((repeat before (encode 32) ++ []) ++ []) ++ []) ++ (text ++ repeat behind (encode 32)) ≡ replicate places 32 ++ text
filled places before behind text all none = rw (encode_ascii 32 (lit< tt), all, none) (simp (append-nil, spaces))

-- what `{:>WIDTH}` writes of a number
pub right_places : (width n : ℕ) → padded_integral (format_spec 32 3 0 width (2 ^ 64 - 1)) false [] (decimal n) ≡ right_in width (decimal n)
unfolding padded_integral char_count
right_places width n = filled (width - length (decimal n)) _ _ (decimal n) (omega arith) (omega arith)

-- a number with a space behind it, and the rest of its line
pub line_joined : (old number place letters new : List ℕ) → number ≡ place ++ 32 ∷ [] → new ≡ ((old ++ number) ++ letters) ++ 10 ∷ [] → new ≡ old ++ ((place ++ 32 ∷ letters) ++ 10 ∷ [])
line_joined old number place letters new is all = all ∙ rw is (simp append_assoc)
