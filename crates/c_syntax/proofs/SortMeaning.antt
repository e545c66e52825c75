-- What each sort of text means by the productions.
use Rattle.std.proofs.Common.{ℕ}
use Rattle.c_syntax.specs.declared.grammar.Sort.{Sort}
use Rattle.c_syntax.specs.declared.grammar.Sort.TheVariants as sort
use Rattle.c_syntax.specs.declared.node.Directive.TheVariants as directive
use Rattle.c_syntax.proofs.CallMeaning.{ReadsAfterAssignName, ReadsAfterPlace, ReadsAfterRightName, ReadsAfterStatementName, ReadsArgs, ReadsAssign, ReadsCondition, ReadsFirst, ReadsLocalRest, ReadsLocals, ReadsLocks, ReadsMoreArgs, ReadsMoreLocals, ReadsMoreLocks, ReadsRight, ReadsStatement, ReadsStepRest, ReadsThird}
use Rattle.c_syntax.proofs.Effects.{Effect}
use Rattle.c_syntax.proofs.ExpressionSorts.{expression_reads}
use Rattle.c_syntax.proofs.HeadMeaning.{ReadsBehind, ReadsChunk, ReadsClause, ReadsClauses, ReadsConstruct, ReadsCriticalName, ReadsDefaultWord, ReadsItemDirective, ReadsKind, ReadsMoreNames, ReadsNames, ReadsOperator}
use Rattle.c_syntax.proofs.StatementMeaning.{ReadsAfterIntName, ReadsBlock, ReadsBody, ReadsElsePart, ReadsFirstSection, ReadsGlobalRest, ReadsInitial, ReadsItems, ReadsMoreParameters, ReadsMoreSections, ReadsMoreVariables, ReadsParameters, ReadsParts, ReadsProgram, ReadsReturnPart, ReadsSectionOrConstruct, ReadsSections}

-- all sorts but those of expressions; of these nothing is said here
abbrev pub ReadsAny : Effect
ReadsAny depth at words nodes = Unit {0}

abbrev pub other_reads : (limit : ℕ) → Sort → Effect → Effect
other_reads limit sort.Program next = ReadsProgram limit next
other_reads limit sort.Globals next = ReadsParts limit next
other_reads limit sort.AfterIntName next = ReadsAfterIntName limit next
other_reads limit sort.Body next = ReadsBody limit next
other_reads limit sort.Params next = ReadsParameters next
other_reads limit sort.MoreParams next = ReadsMoreParameters next
other_reads limit sort.GlobalRest next = ReadsGlobalRest next
other_reads limit sort.Initial next = ReadsInitial next
other_reads limit sort.MoreGlobals next = ReadsMoreVariables next
other_reads limit sort.Locks next = ReadsLocks next
other_reads limit sort.MoreLocks next = ReadsMoreLocks next
other_reads limit sort.Block next = ReadsBlock limit next
other_reads limit sort.Items next = ReadsItems limit next
other_reads limit sort.Locals next = ReadsLocals limit next
other_reads limit sort.LocalRest next = ReadsLocalRest limit next
other_reads limit sort.MoreLocals next = ReadsMoreLocals limit next
other_reads limit sort.Right next = ReadsRight limit next
other_reads limit sort.AfterRightName next = ReadsAfterRightName limit next
other_reads limit sort.Statement next = ReadsStatement limit next
other_reads limit sort.PlainStatement next = ReadsStatement limit next
other_reads limit sort.AfterStatementName next = ReadsAfterStatementName limit next
other_reads limit sort.AfterPlace next = ReadsAfterPlace limit next
other_reads limit sort.AssignRight next = ReadsAssign limit next
other_reads limit sort.AfterAssignName next = ReadsAfterAssignName limit next
other_reads limit sort.Args next = ReadsArgs limit next
other_reads limit sort.MoreArgs next = ReadsMoreArgs limit next
other_reads limit sort.ElsePart next = ReadsElsePart limit next
other_reads limit sort.InitPart next = ReadsFirst limit next
other_reads limit sort.CondPart next = ReadsCondition limit next
other_reads limit sort.StepPart next = ReadsThird limit next
other_reads limit sort.StepRest next = ReadsStepRest limit next
other_reads limit sort.ReturnPart next = ReadsReturnPart limit next
other_reads limit sort.ItemDirective next = ReadsItemDirective limit next
other_reads limit sort.Construct next = ReadsConstruct limit next
other_reads limit (sort.Behind which) next = ReadsBehind limit which next
other_reads limit sort.AfterParallel next = ReadsBehind limit directive.Parallel next
other_reads limit sort.CriticalName next = ReadsCriticalName next
other_reads limit sort.SectionsBody next = ReadsSections limit next
other_reads limit sort.FirstSection next = ReadsFirstSection limit next
other_reads limit sort.SectionOrConstruct next = ReadsSectionOrConstruct limit next
other_reads limit sort.MoreSections next = ReadsMoreSections limit next
other_reads limit (sort.Clauses which) next = ReadsClauses limit which next
other_reads limit sort.DefaultWord next = ReadsDefaultWord next
other_reads limit sort.Operator next = ReadsOperator next
other_reads limit sort.Kind next = ReadsKind next
other_reads limit sort.ChunkPart next = ReadsChunk next
other_reads limit sort.Names next = ReadsNames next
other_reads limit sort.MoreNames next = ReadsMoreNames next
other_reads limit (sort.Clause which) next = ReadsClause limit which next
other_reads limit other next = ReadsAny

abbrev pub reads : (limit : ℕ) → Sort → Effect → Effect
reads limit = expression_reads limit (other_reads limit)
