use Rattle.std.proofs.Common.{get_or, refl, sym, ◌∙◌}
use Rattle.omp_codes.specs.declared.callbacks.TheConstants.{PROFILE}
use Rattle.tool_report.proofs.Shares.{name-there}
use Rattle.tool_report.proofs.profile_report.name_at.Goals as goal

pub returns-clause-name : goal.returns-clause-name
returns-clause-name c = c.name.ensures.name ∙ sym (name-there c.args.place (get_or PROFILE c.args.place 0) c.requires refl)
