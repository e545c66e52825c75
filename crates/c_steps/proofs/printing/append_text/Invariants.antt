use Rattle.std.proofs.Common.{◌≡◌, ◌≤◌, ◌++◌, length, drop, vec_capacity}
use Rattle.c_model.specs.declared.limits.TheConstants.{TEXT_LIMIT}
use Rattle.c_steps.specs.Arguments.{HaveValues, numbers_behind}
use Rattle.c_steps.specs.Printing.{text_left}
use Rattle.c_steps.specs.declared.printing.Before.TheVariants.{Plain}
use Rattle.c_steps.proofs.printing.append_text.Given as goal

-- what is printed, with what is left to be printed, is the whole
abbrev pub invariant-loop-byte : goal.invariant-loop-byte
invariant-loop-byte l = record {
  text : l.text.items ++ text_left l.progress.before (drop l.byte-index l.byte-items) (numbers_behind l.scope l.node l.progress.place)
      ≡ l.initial.text.items ++ text_left Plain l.byte-items (numbers_behind l.scope l.node 0);
  values : HaveValues l.scope l.node l.progress.place;
  few : length l.text.items ≤ TEXT_LIMIT;
  longer : length l.initial.text.items ≤ length l.text.items;
  capacity : vec_capacity l.initial.text ≤ vec_capacity l.text;
}
