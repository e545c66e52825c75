-- At each field of a file some value can stand, whatever stood before.
use Rattle.std.proofs.Common.{◌≡◌, ◌<◌, ◌≤◌, ℕ, zero, suc, ◌^◌, ◌==◌, not, ◌&&◌, ◌||◌, Bool, true, false, if◌then◌else◌, List, [], ◌∷◌, length, refl, ap, eq-eqb, arith}
use Rattle.std.specs.Prelude.{nat_le}
use Rattle.std.proofs.lemmas.Bool.{le-leb, lt-ltb}
use Rattle.std.proofs.lemmas.Nat.Bits.{bit_at-zero}
use Rattle.trace_format.specs.Accepting.{accepts_detail}
use Rattle.trace_format.proofs.Profile.{each_among}
use Rattle.tool_api.specs.Registering.{AreAlways}
use Rattle.ompt_calls.specs.Number.{is_registered}
use Rattle.omp_model.specs.declared.history.Entry.{Entry}
use Rattle.omp_model.specs.declared.history.What.TheVariants.{Back, Go}
use Rattle.history_file.specs.declared.file.TheConstants.{ENTRY_LIMIT, MAGIC, VERSION}
use Rattle.history_file.specs.Reading.{Shape, and_then, end_shape, entries_shape, entry_shape, file_shape, header_shape, is_status, made_entry, store_shape}
use Rattle.history_file.specs.Reading.Shape.{Done}
use Rattle.history_file.proofs.Backwards.{entries_back, header_back}
use Rattle.history_file.proofs.Details.{statuses_of_ends}
use Rattle.history_file.proofs.Files.{after_entries, after_header}
use Rattle.history_file.proofs.Masks.{is_mask_of}
use Rattle.history_file.proofs.Stops.{CanGo, can_go_then}

-- either of two shapes
either_goes : {A : Type 0} (b : Bool) (S T : Shape A) → CanGo S → CanGo T → CanGo (if b then S else T)
either_goes true S T one other = one
either_goes false S T one other = other

no_callback : AreAlways 0
no_callback n registered =
    let none : is_registered 0 n ≡ false = ap (λ (bit : ℕ). bit == 1) (bit_at-zero n) in
    absurd (cc (none, registered))

header_goes : CanGo header_shape
unfolding header_shape
header_goes = (
  (MAGIC, omega arith, refl),
  λ _ _ _. (
    (VERSION, omega arith, refl),
    λ _ _ _. (
      (1, omega arith, refl),
      λ _ _ _. ((0, omega arith, is_mask_of 0 no_callback), λ _ _ _. ((1, omega arith, refl), λ _ _ _. ((0, omega arith, refl), λ _ _ _. tt))),
    ),
  ),
)

store_goes : (threads thread : ℕ) → 1 ≤ threads → CanGo (store_shape threads thread)
unfolding store_shape
store_goes threads thread some = (
  (1, omega arith, refl),
  λ kind _ _. ((1, omega arith, first_stands (kind == 1) (le-leb 1 threads some)), λ _ _ _. ((0, omega arith, refl), λ _ _ _. tt)),
)
  where
    first_stands : (b : Bool) → nat_le 1 threads ≡ true → (nat_le 1 1 && (not b || nat_le 1 threads)) ≡ true
    first_stands true is = is
    first_stands false is = refl

entry_goes : (threads kind : ℕ) → 1 ≤ threads → CanGo (entry_shape threads kind)
unfolding entry_shape
entry_goes threads kind some = (
  (0, omega arith, lt-ltb 0 threads (omega arith)),
  λ thread _ _.
      either_goes (kind == 2) (store_shape threads thread) _ (store_goes threads thread some)
      (either_goes (kind == 1) (Done (made_entry thread Go)) (Done (made_entry thread Back)) tt tt),
)

entries_go : (threads limit : ℕ) → 1 ≤ threads → CanGo (entries_shape threads limit)
unfolding entries_shape
entries_go threads zero some = ((0, omega arith, refl), λ _ _ _. tt)
entries_go threads (suc limit) some = (
  (0, omega arith, refl),
  λ kind _ _.
      either_goes (kind == 0) (Done []) _ tt
      (can_go_then (entry_shape threads kind) (λ (e : Entry). and_then (entries_shape threads limit) (λ (es : List Entry). Done (e ∷ es))) (entry_goes threads kind some)
      (λ e fields leads. can_go_then (entries_shape threads limit) (λ (es : List Entry). Done (e ∷ es)) (entries_go threads limit some) (λ es rest more. tt))),
)

-- each status has a detail
detail_stands : (status : ℕ) → is_status status ≡ true → (n : ℕ) × (n < 256 ^ 4) × (accepts_detail status n ≡ true)
detail_stands status stood =
    each_among (λ s. (n : ℕ) × (n < 256 ^ 4) × (accepts_detail s n ≡ true)) statuses_of_ends
    ((0, omega arith, refl), ((1, omega arith, refl), ((1, omega arith, refl), ((0, omega arith, refl), ((1, omega arith, refl), tt)))))
    status stood

end_goes : (count : ℕ) → count < 2 ^ 32 → CanGo (end_shape count)
unfolding end_shape
end_goes count few = (
  (0, omega arith, refl),
  λ status _ stood. (detail_stands status stood, λ _ _ _. ((count, omega (arith, few), eq-eqb count count refl), λ _ _ _. tt)),
)

pub file_goes : CanGo file_shape
unfolding file_shape
file_goes =
    can_go_then header_shape after_header header_goes
    (λ header fields leads.
    let some = (header_back fields header leads).some in
    λ text long.
    can_go_then (entries_shape header.threads ENTRY_LIMIT) (after_entries header text) (entries_go header.threads ENTRY_LIMIT some)
    (λ entries rest lead.
    let short = (entries_back header.threads ENTRY_LIMIT rest entries lead).short in
    can_go_then (end_shape (length entries)) _ (end_goes (length entries) (omega (arith, short))) (λ end last ends. tt)))
