-- What the table derives is a program by the productions: its rules do no more than what the sorts mean.
use Rattle.std.proofs.Common.{ℕ, List, [], ◌∷◌, refl, sym, ap, subst, ◌∙◌}
use Rattle.c_syntax.specs.declared.grammar.Sort.{Sort}
use Rattle.c_syntax.specs.declared.grammar.Sort.TheVariants as sort
use Rattle.c_syntax.specs.declared.head.Head.TheVariants as head
use Rattle.c_syntax.specs.declared.node.NodeKind.TheVariants as kind
use Rattle.c_syntax.specs.declared.term.Term.TheVariants as term
use Rattle.c_syntax.specs.language.Words.{Word}
use Rattle.c_syntax.specs.language.Tree.{Tree}
use Rattle.c_tokens.specs.language.Faults.{nowhere}
use Rattle.c_syntax.specs.workings.Derivation.{SpellsWithin, opened_at, outermost, result_of}
use Rattle.c_syntax.specs.language.Productions.{FileParts, IsProgram}
use Rattle.c_syntax.proofs.Pushing.{all_added, made-pushed}
use Rattle.c_syntax.proofs.Effects.{Expects, Folds, Makes, Over, derived-runs}
use Rattle.c_syntax.proofs.Standing.{Stands}
use Rattle.c_syntax.proofs.ExpressionSorts.{expressions-fold}
use Rattle.c_syntax.proofs.CallSorts.{calls-fold}
use Rattle.c_syntax.proofs.FileSorts.{files-fold}
use Rattle.c_syntax.proofs.ClauseFolds.{chunk_fold, clause_fold, clauses_fold, default_word_fold, kind_fold, more_names_fold, names_fold, operator_fold}
use Rattle.c_syntax.proofs.HeadFolds.{after_parallel_fold, behind_fold, construct_fold, critical_name_fold, item_directive_fold}
use Rattle.c_syntax.proofs.BlockFolds.{block_fold, else_part_fold, items_fold, plain_statement_fold, return_part_fold, statement_fold}
use Rattle.c_syntax.proofs.SectionFolds.{first_section_fold, more_sections_fold, section_or_construct_fold, sections_fold}
use Rattle.c_syntax.proofs.StatementMeaning.{ReadsProgram}
use Rattle.c_syntax.proofs.SortMeaning.{other_reads, reads}

-- each rule of the table does no more than what its sort means
sorts-fold : (limit : ℕ) (what : Sort) → Folds limit (reads limit) what
sorts-fold limit sort.Expr = expressions-fold limit (other_reads limit) sort.Expr refl
sorts-fold limit sort.AndChain = expressions-fold limit (other_reads limit) sort.AndChain refl
sorts-fold limit sort.EqualChain = expressions-fold limit (other_reads limit) sort.EqualChain refl
sorts-fold limit sort.RelChain = expressions-fold limit (other_reads limit) sort.RelChain refl
sorts-fold limit sort.SumChain = expressions-fold limit (other_reads limit) sort.SumChain refl
sorts-fold limit sort.ProdChain = expressions-fold limit (other_reads limit) sort.ProdChain refl
sorts-fold limit sort.Unary = expressions-fold limit (other_reads limit) sort.Unary refl
sorts-fold limit sort.OrTail = expressions-fold limit (other_reads limit) sort.OrTail refl
sorts-fold limit sort.AndTail = expressions-fold limit (other_reads limit) sort.AndTail refl
sorts-fold limit sort.EqualTail = expressions-fold limit (other_reads limit) sort.EqualTail refl
sorts-fold limit sort.RelTail = expressions-fold limit (other_reads limit) sort.RelTail refl
sorts-fold limit sort.SumTail = expressions-fold limit (other_reads limit) sort.SumTail refl
sorts-fold limit sort.ProdTail = expressions-fold limit (other_reads limit) sort.ProdTail refl
sorts-fold limit sort.IndexPart = expressions-fold limit (other_reads limit) sort.IndexPart refl
sorts-fold limit (sort.AfterGetter which) = expressions-fold limit (other_reads limit) (sort.AfterGetter which) refl
sorts-fold limit sort.Place = expressions-fold limit (other_reads limit) sort.Place refl
sorts-fold limit sort.Program = files-fold limit sort.Program refl
sorts-fold limit sort.Globals = files-fold limit sort.Globals refl
sorts-fold limit sort.AfterIntName = files-fold limit sort.AfterIntName refl
sorts-fold limit sort.Body = files-fold limit sort.Body refl
sorts-fold limit sort.Params = files-fold limit sort.Params refl
sorts-fold limit sort.MoreParams = files-fold limit sort.MoreParams refl
sorts-fold limit sort.GlobalRest = files-fold limit sort.GlobalRest refl
sorts-fold limit sort.Initial = files-fold limit sort.Initial refl
sorts-fold limit sort.MoreGlobals = files-fold limit sort.MoreGlobals refl
sorts-fold limit sort.Block = block_fold limit
sorts-fold limit sort.Items = items_fold limit
sorts-fold limit sort.Statement = statement_fold limit
sorts-fold limit sort.PlainStatement = plain_statement_fold limit
sorts-fold limit sort.ElsePart = else_part_fold limit
sorts-fold limit sort.ReturnPart = return_part_fold limit
sorts-fold limit sort.SectionsBody = sections_fold limit
sorts-fold limit sort.FirstSection = first_section_fold limit
sorts-fold limit sort.SectionOrConstruct = section_or_construct_fold limit
sorts-fold limit sort.MoreSections = more_sections_fold limit
sorts-fold limit sort.ItemDirective = item_directive_fold limit
sorts-fold limit sort.Construct = construct_fold limit
sorts-fold limit (sort.Behind which) = behind_fold limit which
sorts-fold limit sort.AfterParallel = after_parallel_fold limit
sorts-fold limit sort.CriticalName = critical_name_fold limit
sorts-fold limit (sort.Clauses which) = clauses_fold limit which
sorts-fold limit (sort.Clause which) = clause_fold limit which
sorts-fold limit sort.DefaultWord = default_word_fold limit
sorts-fold limit sort.Operator = operator_fold limit
sorts-fold limit sort.Kind = kind_fold limit
sorts-fold limit sort.ChunkPart = chunk_fold limit
sorts-fold limit sort.Names = names_fold limit
sorts-fold limit sort.MoreNames = more_names_fold limit
sorts-fold limit what = calls-fold limit what refl

-- the parts of the file up to its end
ended : (limit : ℕ) (tree : Tree) (word : Word) (words rest : List Word) (trees : List Tree) → FileParts limit 0 (word ∷ words) rest trees
    → Expects term.End (Makes kind.Program (Over tree)) 0 head.Outside rest (all_added trees (opened_at word.spot ∷ outermost)) → IsProgram limit (word ∷ words) tree
ended limit tree word words [] trees parts fails = absurd fails
ended limit tree word words (last ∷ rest) trees parts (ends, (over, result)) =
    let made_so = ap result_of (made-pushed kind.Program trees (opened_at word.spot) (opened_at nowhere) []) in
    let whole = subst (λ behind. FileParts limit 0 (word ∷ words) (last ∷ behind) trees) over parts in
    subst (IsProgram limit (word ∷ words)) (sym made_so ∙ result) (IsProgram.program whole ends)

-- the words of a whole program
program_read : (limit : ℕ) (words : List Word) (tree : Tree) → ReadsProgram limit (Over tree) 0 head.Outside words outermost → IsProgram limit words tree
program_read limit [] tree fails = absurd fails
program_read limit (word ∷ words) tree reads = let parts = reads Stands.stands in ended limit tree word words parts.0 parts.1 parts.2 parts.3

-- a program by the table is one by the productions
pub derives_program : (limit : ℕ) (words : List Word) (tree : Tree) → SpellsWithin limit words tree → IsProgram limit words tree
derives_program limit words tree spells = program_read limit words tree (derived-runs (reads limit) (sorts-fold limit) spells)
