use Rattle.std.proofs.Common.{◌≡◌, ◌++◌, map, take}
use Rattle.std.specs.List.{All}
use Rattle.trace_format.specs.Fields.{spell}
use Rattle.trace_format.specs.Fitting.{FitsArgument}
use Rattle.trace_format.specs.Reached.{flat}
use Rattle.trace_format.proofs.writing.put_arguments.Given as goal

-- the arguments so far were put, and fit
abbrev pub invariant-loop-argument : goal.invariant-loop-argument
invariant-loop-argument l = record {
  bytes : l.piece ≡ l.fn.piece ++ flat (map spell (take l.argument-index l.argument-items));
  fits : All FitsArgument (take l.argument-index l.argument-items);
}
