-- What a handed part stands for, and that it stays the part that it is.
use Rattle.std.specs.Prelude.{⊤}
use Rattle.tool_api.specs.declared.handed.Handed.{Handed}
use Rattle.tool_api.specs.declared.handed.Handed.TheVariants as held
use Rattle.tool_api.specs.Record.{Record, QuietFor}

-- what the part that it holds stands for, where that of a tool is given
abbrev pub HandedFor : {G : Type 0} → (G → Record → Type 0) → Handed G → Record → Type 0
HandedFor GuestFor (held.Guest guest) h = GuestFor guest h
HandedFor GuestFor (held.Quiet quiet) h = QuietFor quiet h

-- a handed part stays what it is: the same tool by a relation that is given, or none
abbrev pub SameHanded : {G : Type 0} → (G → G → Type 0) → Handed G → Handed G → Type 0
SameHanded Same (held.Guest guest) (held.Guest other) = Same guest other
SameHanded Same (held.Guest guest) (held.Quiet other) = ⊥
SameHanded Same (held.Quiet quiet) (held.Guest other) = ⊥
SameHanded Same (held.Quiet quiet) (held.Quiet other) = ⊤

-- each is itself
pub handed-itself : {G : Type 0} (Same : G → G → Type 0) → ((guest : G) → Same guest guest) → (part : Handed G) → SameHanded Same part part
handed-itself Same itself (held.Guest guest) = itself guest
handed-itself Same itself (held.Quiet quiet) = tt

-- and what is the same goes on from one to the next
pub handed-onward : {G : Type 0} (Same : G → G → Type 0) → ((first second third : G) → Same first second → Same second third → Same first third)
    → (first second third : Handed G) → SameHanded Same first second → SameHanded Same second third → SameHanded Same first third
handed-onward Same onward (held.Guest first) (held.Guest second) (held.Guest third) one other = onward first second third one other
handed-onward Same onward (held.Guest first) (held.Guest second) (held.Quiet third) one other = other
handed-onward Same onward (held.Guest first) (held.Quiet second) third one other = absurd one
handed-onward Same onward (held.Quiet first) (held.Guest second) third one other = absurd one
handed-onward Same onward (held.Quiet first) (held.Quiet second) (held.Guest third) one other = other
handed-onward Same onward (held.Quiet first) (held.Quiet second) (held.Quiet third) one other = tt
