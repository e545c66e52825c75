-- Each field that comes next has a byte at least, and as many as tell why it is refused.
use Rattle.std.proofs.Common.{ℕ, ◌≡◌, ◌≤◌, ◌+◌, Bool, cond, true, false, List, [], ◌∷◌, ◌++◌, length, Option, Some, None, subst, length-append, arith}
use Rattle.byteorder.specs.Endian.{big_number}
use Rattle.trace_format.specs.declared.kind.Kind.{Kind}
use Rattle.trace_format.specs.declared.kind.Kind.TheVariants.{Long, Place, Word, Frame, Iterations}
use Rattle.trace_format.specs.declared.trace.Header.{Header}
use Rattle.trace_format.specs.Accepting.{Next, argument_next, end_next, event_next, header_next, kinds_of, next_in, next_of, record_next, width_of}
use Rattle.trace_format.specs.Flat.{reason_width}
use Rattle.trace_format.specs.Reached.{AreAccepted, IsAccepted, flat}
use Rattle.trace_format.specs.Taking.{Stage}

abbrev pub IsGood : Option Next → Type 0
IsGood None = Unit {0}
IsGood (Some next) = (1 ≤ next.width) × (reason_width next.field ≤ next.width)

-- what holds of both values holds of the one that is chosen
pub chosen : {X : Type 0} (P : X → Type 0) (b : Bool) (x y : X) → P x → P y → P (cond b x y)
chosen P true x y p q = p
chosen P false x y p q = q

pub width_some : (kind : Kind) → 1 ≤ width_of kind
width_some Word = omega arith
width_some Long = omega arith
width_some Place = omega arith
width_some Frame = omega arith
width_some Iterations = omega arith
width_some other = omega arith

good_header : (fields : List (List ℕ)) → IsGood (header_next fields)
good_header [] = (omega arith, omega arith)
good_header (a ∷ []) = (omega arith, omega arith)
good_header (a ∷ b ∷ []) = (omega arith, omega arith)
good_header (a ∷ b ∷ c ∷ []) = (omega arith, omega arith)
good_header (a ∷ b ∷ c ∷ d ∷ []) = (omega arith, omega arith)
good_header (a ∷ b ∷ c ∷ d ∷ e ∷ rest) = tt

good_end : (stage : Stage) (fields : List (List ℕ)) → IsGood (end_next stage fields)
good_end stage [] = (omega arith, omega arith)
good_end stage (a ∷ []) = (omega arith, omega arith)
good_end stage (a ∷ b ∷ []) = (omega arith, omega arith)
good_end stage (a ∷ b ∷ c ∷ rest) = tt

good_argument : (before : List (List ℕ)) (kinds : List Kind) (rest : List (List ℕ)) → IsGood (argument_next before kinds rest)
good_argument before [] rest = tt
good_argument before (kind ∷ kinds) [] = (width_some kind, omega arith)
good_argument before (kind ∷ kinds) (bytes ∷ rest) = good_argument (before ++ bytes ∷ []) kinds rest

good_event : (header : Header) (stage : Stage) (number : ℕ) (fields : List (List ℕ)) → IsGood (event_next header stage number fields)
good_event header stage number [] = (omega arith, omega arith)
good_event header stage number (a ∷ []) = (omega arith, omega arith)
good_event header stage number (a ∷ b ∷ []) = (omega arith, omega arith)
good_event header stage number (a ∷ b ∷ c ∷ []) = (omega arith, omega arith)
good_event header stage number (a ∷ b ∷ c ∷ d ∷ rest) = good_argument [] (kinds_of number) rest

good_record : (header : Header) (stage : Stage) (fields : List (List ℕ)) → IsGood (record_next header stage fields)
good_record header stage [] = (omega arith, omega arith)
good_record header stage (number ∷ rest) =
    chosen IsGood _ (end_next stage rest) (event_next header stage (big_number 1 number) rest) (good_end stage rest) (good_event header stage (big_number 1 number) rest)

good_in : (stage : Stage) (header : Option Header) (fields : List (List ℕ)) → IsGood (next_in stage header fields)
good_in stage None fields = good_header fields
good_in stage (Some header) fields = good_record header stage fields

pub good : (stage : Stage) (fields : List (List ℕ)) → IsGood (next_of stage fields)
good stage fields = chosen IsGood stage.over None (next_in stage stage.header fields) tt (good_in stage stage.header fields)

pub good_next : (stage : Stage) (fields : List (List ℕ)) (next : Next) → next_of stage fields ≡ Some next → (1 ≤ next.width) × (reason_width next.field ≤ next.width)
good_next stage fields next e = subst IsGood e (good stage fields)

-- there are no more fields than bytes
pub few_from : (stage : Stage) (before fields : List (List ℕ)) → AreAccepted stage before fields → length fields ≤ length (flat fields)
few_from stage before [] accepted = omega arith
few_from stage before (bytes ∷ rest) accepted =
    let a : IsAccepted stage before bytes = accepted.0 in
    let g : 1 ≤ a.next.width = (good_next stage before a.next a.comes).0 in
    let w : length bytes ≡ a.next.width = a.width in
    let l : length (bytes ++ flat rest) ≡ length bytes + length (flat rest) = length-append bytes (flat rest) in
    let i : length rest ≤ length (flat rest) = few_from stage (before ++ bytes ∷ []) rest accepted.1 in
    omega (arith, g, w, l, i)
