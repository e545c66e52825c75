-- Two tools in one, before anything is told.
use Rattle.std.specs.Prelude.{◌≡◌, [], ◌∷◌}
use Rattle.tool_api.specs.Record.{Record}
use Rattle.tool_both.specs.declared.both.Both.{Both}
use Rattle.tool_both.specs.declared.masks.Masks.{Masks}
use Rattle.tool_both.specs.Joined.{starts_of}

-- no call of `callback` or of `finalize` yet; it may be started
pub record IsUnheard (h : Record) : Type 0 where
  pub calls : h.calls ≡ []
  pub finished : h.finished ≡ []
  pub unheard : h.unheard ≡ 0

-- the record of both at first, where the tools have these records
abbrev pub fresh_both : Masks → Record → Record → Record
fresh_both masks first second =
    record { started = []; calls = []; finished = []; unheard = 0; within = starts_of masks ∷ first.started ∷ second.started ∷ [] }

-- these are the two tools of it
pub record HasTools {A B : Type 0} (both : Both A B) (first : A) (second : B) : Type 0 where
  pub first_is : both.first ≡ first
  pub second_is : both.second ≡ second
