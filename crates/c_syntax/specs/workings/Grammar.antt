-- The grammar. Each rule says by which steps a sort of text is read, by the word that is next. Where a part may be left out, it is
-- left out only where the next word can't begin it.
use Rattle.std.specs.Prelude.{Bool, true, false, List, [], ◌∷◌, Option, Some, None}
use Rattle.c_syntax.specs.declared.term.Term.{Term}
use Rattle.c_syntax.specs.declared.term.Term.TheVariants as term
use Rattle.c_syntax.specs.declared.node.Returns.TheVariants as returns
use Rattle.c_syntax.specs.declared.node.Parameters.TheVariants as params
use Rattle.c_syntax.specs.declared.node.Sign.TheVariants as sign
use Rattle.c_syntax.specs.declared.node.LockCall.TheVariants as lock
use Rattle.c_syntax.specs.declared.node.Setting.TheVariants as setting
use Rattle.c_syntax.specs.declared.node.Bump.TheVariants as bump
use Rattle.c_syntax.specs.declared.node.Side.TheVariants as side
use Rattle.c_syntax.specs.declared.node.BinaryOp.TheVariants as binary
use Rattle.c_syntax.specs.declared.node.UnaryOp.TheVariants as unary_op
use Rattle.c_syntax.specs.declared.node.Getter.{Getter}
use Rattle.c_syntax.specs.declared.node.Getter.TheVariants as getter
use Rattle.c_syntax.specs.declared.node.Standalone.TheVariants as standalone
use Rattle.c_syntax.specs.declared.node.Directive.{Directive}
use Rattle.c_syntax.specs.declared.node.Directive.TheVariants as directive
use Rattle.c_syntax.specs.declared.node.Lead.TheVariants as lead
use Rattle.c_syntax.specs.declared.node.Default.TheVariants as default
use Rattle.c_syntax.specs.declared.node.Data.TheVariants as data_clause
use Rattle.c_syntax.specs.declared.node.ReductionOp.TheVariants as reduction
use Rattle.c_syntax.specs.declared.node.ScheduleKind.TheVariants as kind
use Rattle.c_syntax.specs.declared.node.NodeKind.TheVariants as node
use Rattle.c_syntax.specs.declared.grammar.Class.TheVariants as class
use Rattle.c_syntax.specs.declared.grammar.Sort.{Sort}
use Rattle.c_syntax.specs.declared.grammar.Sort.TheVariants as sort
use Rattle.c_syntax.specs.declared.grammar.Step.{Step}
use Rattle.c_syntax.specs.declared.grammar.Step.TheVariants.{Expect, Deepen, Rise, Take, InHead, Read, Open, Make, Join, Wrap, Skip}

-- program = { include | global } end
abbrev pub program : Term → Option (List Step)
program ahead = Some (Open ∷ Read sort.Globals ∷ Expect term.End ∷ Make node.Program ∷ [])

-- the includes, functions, variables and locks of a file. What follows the word `void` counts as its block for the depth
abbrev pub globals : Term → Option (List Step)
globals term.Include = Some (Open ∷ Expect term.Include ∷ Make node.Include ∷ Read sort.Globals ∷ [])
globals term.Int = Some (Open ∷ Expect term.Int ∷ Open ∷ Take class.Name ∷ Read sort.AfterIntName ∷ Read sort.Globals ∷ [])
globals term.Void = Some (Open ∷ Deepen term.Void ∷ Open ∷ Take class.Name ∷ Make node.Name ∷ Expect term.OpenParen ∷ Read sort.Body ∷ Make (node.Function returns.Void) ∷ Rise ∷ Read sort.Globals ∷ [])
globals term.LockType = Some (Read sort.Locks ∷ Read sort.Globals ∷ [])
globals ahead = Some []

-- `int` and a name begin a function, or variables. What follows the parenthesis counts as its block for the depth
abbrev pub after_int_name : Term → Option (List Step)
after_int_name term.OpenParen = Some (Make node.Name ∷ Deepen term.OpenParen ∷ Read sort.Body ∷ Make (node.Function returns.Int) ∷ Rise ∷ [])
after_int_name ahead = Some (Read sort.GlobalRest ∷ Read sort.MoreGlobals ∷ Expect term.Semicolon ∷ Make node.Globals ∷ [])

-- function = .. name ( params ) block
abbrev pub body : Term → Option (List Step)
body ahead = Some (Read sort.Params ∷ Expect term.CloseParen ∷ Open ∷ Expect term.OpenBrace ∷ Read sort.Items ∷ Expect term.CloseBrace ∷ Make node.Block ∷ [])

-- params = [ void | int name { , int name } ]
abbrev pub parameters : Term → Option (List Step)
parameters term.Void = Some (Open ∷ Expect term.Void ∷ Make (node.Params params.Void) ∷ [])
parameters term.Int = Some (Open ∷ Expect term.Int ∷ Open ∷ Take class.Name ∷ Make node.Name ∷ Read sort.MoreParams ∷ Make (node.Params params.Listed) ∷ [])
parameters ahead = Some (Open ∷ Make (node.Params params.Empty) ∷ [])

-- .. { , int name }
abbrev pub more_params : Term → Option (List Step)
more_params term.Comma = Some (Expect term.Comma ∷ Expect term.Int ∷ Open ∷ Take class.Name ∷ Make node.Name ∷ Read sort.MoreParams ∷ [])
more_params ahead = Some []

-- global variable = name [ [ number ] | = [ - ] number ]
abbrev pub global_rest : Term → Option (List Step)
global_rest term.OpenBracket = Some (Expect term.OpenBracket ∷ Take class.Number ∷ Expect term.CloseBracket ∷ Make node.GlobalArray ∷ [])
global_rest term.Set = Some (Expect term.Set ∷ Read sort.Initial ∷ [])
global_rest ahead = Some (Make node.GlobalVar ∷ [])

-- [ - ] number
abbrev pub initial : Term → Option (List Step)
initial term.Minus = Some (Expect term.Minus ∷ Take class.Number ∷ Make (node.GlobalSet sign.Minus) ∷ [])
initial ahead = Some (Take class.Number ∷ Make (node.GlobalSet sign.Plus) ∷ [])

-- .. { , global variable }
abbrev pub more_globals : Term → Option (List Step)
more_globals term.Comma = Some (Expect term.Comma ∷ Open ∷ Take class.Name ∷ Read sort.GlobalRest ∷ Read sort.MoreGlobals ∷ [])
more_globals ahead = Some []

-- locks = omp_lock_t name { , name } ;
abbrev pub locks : Term → Option (List Step)
locks ahead = Some (Open ∷ Expect term.LockType ∷ Open ∷ Take class.Name ∷ Make node.Name ∷ Read sort.MoreLocks ∷ Expect term.Semicolon ∷ Make node.Locks ∷ [])

-- .. { , name }
abbrev pub more_locks : Term → Option (List Step)
more_locks term.Comma = Some (Expect term.Comma ∷ Open ∷ Take class.Name ∷ Make node.Name ∷ Read sort.MoreLocks ∷ [])
more_locks ahead = Some []

-- block = { { item } }
abbrev pub block : Term → Option (List Step)
block ahead = Some (Open ∷ Deepen term.OpenBrace ∷ Read sort.Items ∷ Expect term.CloseBrace ∷ Make node.Block ∷ Rise ∷ [])

-- item = variables | locks | statement | directive without statement
abbrev pub items : Term → Option (List Step)
items term.CloseBrace = Some []
items term.Int = Some (Read sort.Locals ∷ Read sort.Items ∷ [])
items term.LockType = Some (Read sort.Locks ∷ Read sort.Items ∷ [])
items term.Pragma = Some (Open ∷ Expect term.Pragma ∷ Read sort.ItemDirective ∷ Read sort.Items ∷ [])
items ahead = Some (Read sort.PlainStatement ∷ Read sort.Items ∷ [])

-- int variable { , variable } ;
abbrev pub locals : Term → Option (List Step)
locals ahead = Some (Open ∷ Expect term.Int ∷ Open ∷ Take class.Name ∷ Read sort.LocalRest ∷ Read sort.MoreLocals ∷ Expect term.Semicolon ∷ Make node.Locals ∷ [])

-- variable = name [ [ number ] | = right ]
abbrev pub local_rest : Term → Option (List Step)
local_rest term.OpenBracket = Some (Expect term.OpenBracket ∷ Take class.Number ∷ Expect term.CloseBracket ∷ Make node.LocalArray ∷ [])
local_rest term.Set = Some (Expect term.Set ∷ Read sort.Right ∷ Make node.LocalSet ∷ [])
local_rest ahead = Some (Make node.LocalVar ∷ [])

-- .. { , variable }
abbrev pub more_locals : Term → Option (List Step)
more_locals term.Comma = Some (Expect term.Comma ∷ Open ∷ Take class.Name ∷ Read sort.LocalRest ∷ Read sort.MoreLocals ∷ [])
more_locals ahead = Some []

-- right = expression | call. A name may begin either
abbrev pub right : Term → Option (List Step)
right term.TestLock = Some (Open ∷ Expect term.TestLock ∷ Expect term.OpenParen ∷ Expect term.Ampersand ∷ Open ∷ Take class.Name ∷ Make node.Name ∷ Expect term.CloseParen ∷ Make node.TestLock ∷ [])
right term.Number = Some (Read sort.Unary ∷ Read sort.ProdTail ∷ Read sort.SumTail ∷ Read sort.RelTail ∷ Read sort.EqualTail ∷ Read sort.AndTail ∷ Read sort.OrTail ∷ [])
right term.OpenParen = Some (Read sort.Unary ∷ Read sort.ProdTail ∷ Read sort.SumTail ∷ Read sort.RelTail ∷ Read sort.EqualTail ∷ Read sort.AndTail ∷ Read sort.OrTail ∷ [])
right term.Minus = Some (Read sort.Unary ∷ Read sort.ProdTail ∷ Read sort.SumTail ∷ Read sort.RelTail ∷ Read sort.EqualTail ∷ Read sort.AndTail ∷ Read sort.OrTail ∷ [])
right term.Not = Some (Read sort.Unary ∷ Read sort.ProdTail ∷ Read sort.SumTail ∷ Read sort.RelTail ∷ Read sort.EqualTail ∷ Read sort.AndTail ∷ Read sort.OrTail ∷ [])
right term.GetThreadNum = Some (Read sort.Unary ∷ Read sort.ProdTail ∷ Read sort.SumTail ∷ Read sort.RelTail ∷ Read sort.EqualTail ∷ Read sort.AndTail ∷ Read sort.OrTail ∷ [])
right term.GetNumThreads = Some (Read sort.Unary ∷ Read sort.ProdTail ∷ Read sort.SumTail ∷ Read sort.RelTail ∷ Read sort.EqualTail ∷ Read sort.AndTail ∷ Read sort.OrTail ∷ [])
right term.GetMaxThreads = Some (Read sort.Unary ∷ Read sort.ProdTail ∷ Read sort.SumTail ∷ Read sort.RelTail ∷ Read sort.EqualTail ∷ Read sort.AndTail ∷ Read sort.OrTail ∷ [])
right ahead = Some (Open ∷ Take class.Name ∷ Read sort.AfterRightName ∷ [])

-- .. as a call, or as a place in an expression
abbrev pub after_right_name : Term → Option (List Step)
after_right_name term.OpenParen = Some (Expect term.OpenParen ∷ Read sort.Args ∷ Expect term.CloseParen ∷ Make node.Call ∷ [])
after_right_name ahead = Some (Read sort.IndexPart ∷ Make node.Place ∷ Read sort.ProdTail ∷ Read sort.SumTail ∷ Read sort.RelTail ∷ Read sort.EqualTail ∷ Read sort.AndTail ∷ Read sort.OrTail ∷ [])

-- statement = plain statement | construct
abbrev pub statement : Term → Option (List Step)
statement term.Pragma = Some (Open ∷ Deepen term.Pragma ∷ Read sort.Construct ∷ [])
statement ahead = Some (Read sort.PlainStatement ∷ [])

-- the statements that are no constructs
abbrev pub plain_statement : Term → Option (List Step)
plain_statement term.Semicolon = Some (Open ∷ Expect term.Semicolon ∷ Make node.Empty ∷ [])
plain_statement term.OpenBrace = Some (Read sort.Block ∷ [])
plain_statement term.If = Some (Open ∷ Deepen term.If ∷ Expect term.OpenParen ∷ Read sort.Expr ∷ Expect term.CloseParen ∷ Read sort.Statement ∷ Read sort.ElsePart ∷ Make node.If ∷ Rise ∷ [])
plain_statement term.While = Some (Open ∷ Deepen term.While ∷ Expect term.OpenParen ∷ Read sort.Expr ∷ Expect term.CloseParen ∷ Read sort.Statement ∷ Make node.While ∷ Rise ∷ [])
plain_statement term.For = Some (Open ∷ Deepen term.For ∷ Expect term.OpenParen ∷ Read sort.InitPart ∷ Expect term.Semicolon ∷ Read sort.CondPart ∷ Expect term.Semicolon ∷ Read sort.StepPart ∷ Expect term.CloseParen ∷ Read sort.Statement ∷ Make node.For ∷ Rise ∷ [])
plain_statement term.Return = Some (Open ∷ Expect term.Return ∷ Read sort.ReturnPart ∷ Expect term.Semicolon ∷ Make node.Return ∷ [])
plain_statement term.Printf = Some (Open ∷ Expect term.Printf ∷ Expect term.OpenParen ∷ Take class.Text ∷ Read sort.MoreArgs ∷ Expect term.CloseParen ∷ Expect term.Semicolon ∷ Make node.Print ∷ [])
plain_statement term.InitLock = Some (Open ∷ Expect term.InitLock ∷ Expect term.OpenParen ∷ Expect term.Ampersand ∷ Open ∷ Take class.Name ∷ Make node.Name ∷ Expect term.CloseParen ∷ Expect term.Semicolon ∷ Make (node.LockCall lock.Init) ∷ [])
plain_statement term.DestroyLock = Some (Open ∷ Expect term.DestroyLock ∷ Expect term.OpenParen ∷ Expect term.Ampersand ∷ Open ∷ Take class.Name ∷ Make node.Name ∷ Expect term.CloseParen ∷ Expect term.Semicolon ∷ Make (node.LockCall lock.Destroy) ∷ [])
plain_statement term.SetLock = Some (Open ∷ Expect term.SetLock ∷ Expect term.OpenParen ∷ Expect term.Ampersand ∷ Open ∷ Take class.Name ∷ Make node.Name ∷ Expect term.CloseParen ∷ Expect term.Semicolon ∷ Make (node.LockCall lock.Set) ∷ [])
plain_statement term.UnsetLock = Some (Open ∷ Expect term.UnsetLock ∷ Expect term.OpenParen ∷ Expect term.Ampersand ∷ Open ∷ Take class.Name ∷ Make node.Name ∷ Expect term.CloseParen ∷ Expect term.Semicolon ∷ Make (node.LockCall lock.Unset) ∷ [])
plain_statement term.TestLock = Some (Open ∷ Open ∷ Expect term.TestLock ∷ Expect term.OpenParen ∷ Expect term.Ampersand ∷ Open ∷ Take class.Name ∷ Make node.Name ∷ Expect term.CloseParen ∷ Make node.TestLock ∷ Expect term.Semicolon ∷ Make node.Called ∷ [])
plain_statement term.PlusPlus = Some (Open ∷ Open ∷ Expect term.PlusPlus ∷ Read sort.Place ∷ Make (node.Bump bump.Increment side.Before) ∷ Expect term.Semicolon ∷ Make node.Step ∷ [])
plain_statement term.MinusMinus = Some (Open ∷ Open ∷ Expect term.MinusMinus ∷ Read sort.Place ∷ Make (node.Bump bump.Decrement side.Before) ∷ Expect term.Semicolon ∷ Make node.Step ∷ [])
plain_statement ahead = Some (Open ∷ Take class.Name ∷ Read sort.AfterStatementName ∷ [])

-- a call ; or what is done with a place
abbrev pub after_statement_name : Term → Option (List Step)
after_statement_name term.OpenParen = Some (Expect term.OpenParen ∷ Read sort.Args ∷ Expect term.CloseParen ∷ Make node.Call ∷ Wrap node.Called ∷ Expect term.Semicolon ∷ [])
after_statement_name ahead = Some (Read sort.IndexPart ∷ Make node.Place ∷ Read sort.AfterPlace ∷ [])

-- place = right ; | step ;
abbrev pub after_place : Term → Option (List Step)
after_place term.Set = Some (Expect term.Set ∷ Read sort.AssignRight ∷ Expect term.Semicolon ∷ [])
after_place term.PlusSet = Some (Expect term.PlusSet ∷ Read sort.Expr ∷ Join (node.Assign setting.Add) ∷ Wrap node.Step ∷ Expect term.Semicolon ∷ [])
after_place term.MinusSet = Some (Expect term.MinusSet ∷ Read sort.Expr ∷ Join (node.Assign setting.Subtract) ∷ Wrap node.Step ∷ Expect term.Semicolon ∷ [])
after_place term.TimesSet = Some (Expect term.TimesSet ∷ Read sort.Expr ∷ Join (node.Assign setting.Multiply) ∷ Wrap node.Step ∷ Expect term.Semicolon ∷ [])
after_place term.SlashSet = Some (Expect term.SlashSet ∷ Read sort.Expr ∷ Join (node.Assign setting.Divide) ∷ Wrap node.Step ∷ Expect term.Semicolon ∷ [])
after_place term.PercentSet = Some (Expect term.PercentSet ∷ Read sort.Expr ∷ Join (node.Assign setting.Remainder) ∷ Wrap node.Step ∷ Expect term.Semicolon ∷ [])
after_place term.PlusPlus = Some (Expect term.PlusPlus ∷ Wrap (node.Bump bump.Increment side.Behind) ∷ Wrap node.Step ∷ Expect term.Semicolon ∷ [])
after_place term.MinusMinus = Some (Expect term.MinusMinus ∷ Wrap (node.Bump bump.Decrement side.Behind) ∷ Wrap node.Step ∷ Expect term.Semicolon ∷ [])
after_place ahead = None

-- an assignment of an expression is a step, one of a call is not
abbrev pub assign_right : Term → Option (List Step)
assign_right term.TestLock = Some (Open ∷ Expect term.TestLock ∷ Expect term.OpenParen ∷ Expect term.Ampersand ∷ Open ∷ Take class.Name ∷ Make node.Name ∷ Expect term.CloseParen ∷ Make node.TestLock ∷ Join node.SetCall ∷ [])
assign_right term.Number = Some (Read sort.Unary ∷ Read sort.ProdTail ∷ Read sort.SumTail ∷ Read sort.RelTail ∷ Read sort.EqualTail ∷ Read sort.AndTail ∷ Read sort.OrTail ∷ Join (node.Assign setting.Plain) ∷ Wrap node.Step ∷ [])
assign_right term.OpenParen = Some (Read sort.Unary ∷ Read sort.ProdTail ∷ Read sort.SumTail ∷ Read sort.RelTail ∷ Read sort.EqualTail ∷ Read sort.AndTail ∷ Read sort.OrTail ∷ Join (node.Assign setting.Plain) ∷ Wrap node.Step ∷ [])
assign_right term.Minus = Some (Read sort.Unary ∷ Read sort.ProdTail ∷ Read sort.SumTail ∷ Read sort.RelTail ∷ Read sort.EqualTail ∷ Read sort.AndTail ∷ Read sort.OrTail ∷ Join (node.Assign setting.Plain) ∷ Wrap node.Step ∷ [])
assign_right term.Not = Some (Read sort.Unary ∷ Read sort.ProdTail ∷ Read sort.SumTail ∷ Read sort.RelTail ∷ Read sort.EqualTail ∷ Read sort.AndTail ∷ Read sort.OrTail ∷ Join (node.Assign setting.Plain) ∷ Wrap node.Step ∷ [])
assign_right term.GetThreadNum = Some (Read sort.Unary ∷ Read sort.ProdTail ∷ Read sort.SumTail ∷ Read sort.RelTail ∷ Read sort.EqualTail ∷ Read sort.AndTail ∷ Read sort.OrTail ∷ Join (node.Assign setting.Plain) ∷ Wrap node.Step ∷ [])
assign_right term.GetNumThreads = Some (Read sort.Unary ∷ Read sort.ProdTail ∷ Read sort.SumTail ∷ Read sort.RelTail ∷ Read sort.EqualTail ∷ Read sort.AndTail ∷ Read sort.OrTail ∷ Join (node.Assign setting.Plain) ∷ Wrap node.Step ∷ [])
assign_right term.GetMaxThreads = Some (Read sort.Unary ∷ Read sort.ProdTail ∷ Read sort.SumTail ∷ Read sort.RelTail ∷ Read sort.EqualTail ∷ Read sort.AndTail ∷ Read sort.OrTail ∷ Join (node.Assign setting.Plain) ∷ Wrap node.Step ∷ [])
assign_right ahead = Some (Open ∷ Take class.Name ∷ Read sort.AfterAssignName ∷ [])

-- .. a name there
abbrev pub after_assign_name : Term → Option (List Step)
after_assign_name term.OpenParen = Some (Expect term.OpenParen ∷ Read sort.Args ∷ Expect term.CloseParen ∷ Make node.Call ∷ Join node.SetCall ∷ [])
after_assign_name ahead = Some (Read sort.IndexPart ∷ Make node.Place ∷ Read sort.ProdTail ∷ Read sort.SumTail ∷ Read sort.RelTail ∷ Read sort.EqualTail ∷ Read sort.AndTail ∷ Read sort.OrTail ∷ Join (node.Assign setting.Plain) ∷ Wrap node.Step ∷ [])

-- place = name [ [ expression ] ]
abbrev pub place : Term → Option (List Step)
place ahead = Some (Open ∷ Take class.Name ∷ Read sort.IndexPart ∷ Make node.Place ∷ [])

-- [ expression { , expression } ]
abbrev pub args : Term → Option (List Step)
args term.CloseParen = Some []
args ahead = Some (Read sort.Expr ∷ Read sort.MoreArgs ∷ [])

-- .. { , expression }
abbrev pub more_args : Term → Option (List Step)
more_args term.Comma = Some (Expect term.Comma ∷ Read sort.Expr ∷ Read sort.MoreArgs ∷ [])
more_args ahead = Some []

-- [ else statement ]. It belongs to the nearest `if`, since it is absent only where no `else` stands
abbrev pub else_part : Term → Option (List Step)
else_part term.Else = Some (Expect term.Else ∷ Read sort.Statement ∷ [])
else_part ahead = Some (Skip ∷ [])

-- [ int name = expression | step ]
abbrev pub init_part : Term → Option (List Step)
init_part term.Semicolon = Some (Skip ∷ [])
init_part term.Int = Some (Open ∷ Expect term.Int ∷ Open ∷ Take class.Name ∷ Make node.Name ∷ Expect term.Set ∷ Read sort.Expr ∷ Make node.Init ∷ [])
init_part term.PlusPlus = Some (Open ∷ Expect term.PlusPlus ∷ Read sort.Place ∷ Make (node.Bump bump.Increment side.Before) ∷ [])
init_part term.MinusMinus = Some (Open ∷ Expect term.MinusMinus ∷ Read sort.Place ∷ Make (node.Bump bump.Decrement side.Before) ∷ [])
init_part ahead = Some (Read sort.Place ∷ Read sort.StepRest ∷ [])

-- [ expression ]
abbrev pub cond_part : Term → Option (List Step)
cond_part term.Semicolon = Some (Skip ∷ [])
cond_part ahead = Some (Read sort.Expr ∷ [])

-- [ step ]
abbrev pub step_part : Term → Option (List Step)
step_part term.CloseParen = Some (Skip ∷ [])
step_part term.PlusPlus = Some (Open ∷ Expect term.PlusPlus ∷ Read sort.Place ∷ Make (node.Bump bump.Increment side.Before) ∷ [])
step_part term.MinusMinus = Some (Open ∷ Expect term.MinusMinus ∷ Read sort.Place ∷ Make (node.Bump bump.Decrement side.Before) ∷ [])
step_part ahead = Some (Read sort.Place ∷ Read sort.StepRest ∷ [])

-- step = place ( = | += | -= | *= | /= | %= ) expression | place ++ | place -- | ++ place | -- place
abbrev pub step_rest : Term → Option (List Step)
step_rest term.Set = Some (Expect term.Set ∷ Read sort.Expr ∷ Join (node.Assign setting.Plain) ∷ [])
step_rest term.PlusSet = Some (Expect term.PlusSet ∷ Read sort.Expr ∷ Join (node.Assign setting.Add) ∷ [])
step_rest term.MinusSet = Some (Expect term.MinusSet ∷ Read sort.Expr ∷ Join (node.Assign setting.Subtract) ∷ [])
step_rest term.TimesSet = Some (Expect term.TimesSet ∷ Read sort.Expr ∷ Join (node.Assign setting.Multiply) ∷ [])
step_rest term.SlashSet = Some (Expect term.SlashSet ∷ Read sort.Expr ∷ Join (node.Assign setting.Divide) ∷ [])
step_rest term.PercentSet = Some (Expect term.PercentSet ∷ Read sort.Expr ∷ Join (node.Assign setting.Remainder) ∷ [])
step_rest term.PlusPlus = Some (Expect term.PlusPlus ∷ Wrap (node.Bump bump.Increment side.Behind) ∷ [])
step_rest term.MinusMinus = Some (Expect term.MinusMinus ∷ Wrap (node.Bump bump.Decrement side.Behind) ∷ [])
step_rest ahead = None

-- [ right ]
abbrev pub return_part : Term → Option (List Step)
return_part term.Semicolon = Some []
return_part ahead = Some (Read sort.Right ∷ [])

-- expression = and { || and }
abbrev pub expr : Term → Option (List Step)
expr ahead = Some (Read sort.AndChain ∷ Read sort.OrTail ∷ [])

-- .. { || and }
abbrev pub or_tail : Term → Option (List Step)
or_tail term.OrOr = Some (Expect term.OrOr ∷ Read sort.AndChain ∷ Join (node.Binary binary.Or) ∷ Read sort.OrTail ∷ [])
or_tail ahead = Some []

-- and = equal { && equal }
abbrev pub and_chain : Term → Option (List Step)
and_chain ahead = Some (Read sort.EqualChain ∷ Read sort.AndTail ∷ [])

-- .. { && equal }
abbrev pub and_tail : Term → Option (List Step)
and_tail term.AndAnd = Some (Expect term.AndAnd ∷ Read sort.EqualChain ∷ Join (node.Binary binary.And) ∷ Read sort.AndTail ∷ [])
and_tail ahead = Some []

-- equal = rel { ( == | != ) rel }
abbrev pub equal_chain : Term → Option (List Step)
equal_chain ahead = Some (Read sort.RelChain ∷ Read sort.EqualTail ∷ [])

-- .. { ( == | != ) rel }
abbrev pub equal_tail : Term → Option (List Step)
equal_tail term.EqualEqual = Some (Expect term.EqualEqual ∷ Read sort.RelChain ∷ Join (node.Binary binary.Equal) ∷ Read sort.EqualTail ∷ [])
equal_tail term.NotEqual = Some (Expect term.NotEqual ∷ Read sort.RelChain ∷ Join (node.Binary binary.NotEqual) ∷ Read sort.EqualTail ∷ [])
equal_tail ahead = Some []

-- rel = sum { ( < | <= | > | >= ) sum }
abbrev pub rel_chain : Term → Option (List Step)
rel_chain ahead = Some (Read sort.SumChain ∷ Read sort.RelTail ∷ [])

-- .. { ( < | <= | > | >= ) sum }
abbrev pub rel_tail : Term → Option (List Step)
rel_tail term.Less = Some (Expect term.Less ∷ Read sort.SumChain ∷ Join (node.Binary binary.Less) ∷ Read sort.RelTail ∷ [])
rel_tail term.LessEqual = Some (Expect term.LessEqual ∷ Read sort.SumChain ∷ Join (node.Binary binary.LessEqual) ∷ Read sort.RelTail ∷ [])
rel_tail term.Greater = Some (Expect term.Greater ∷ Read sort.SumChain ∷ Join (node.Binary binary.Greater) ∷ Read sort.RelTail ∷ [])
rel_tail term.GreaterEqual = Some (Expect term.GreaterEqual ∷ Read sort.SumChain ∷ Join (node.Binary binary.GreaterEqual) ∷ Read sort.RelTail ∷ [])
rel_tail ahead = Some []

-- sum = prod { ( + | - ) prod }
abbrev pub sum_chain : Term → Option (List Step)
sum_chain ahead = Some (Read sort.ProdChain ∷ Read sort.SumTail ∷ [])

-- .. { ( + | - ) prod }
abbrev pub sum_tail : Term → Option (List Step)
sum_tail term.Plus = Some (Expect term.Plus ∷ Read sort.ProdChain ∷ Join (node.Binary binary.Add) ∷ Read sort.SumTail ∷ [])
sum_tail term.Minus = Some (Expect term.Minus ∷ Read sort.ProdChain ∷ Join (node.Binary binary.Subtract) ∷ Read sort.SumTail ∷ [])
sum_tail ahead = Some []

-- prod = unary { ( * | / | % ) unary }
abbrev pub prod_chain : Term → Option (List Step)
prod_chain ahead = Some (Read sort.Unary ∷ Read sort.ProdTail ∷ [])

-- .. { ( * | / | % ) unary }
abbrev pub prod_tail : Term → Option (List Step)
prod_tail term.Star = Some (Expect term.Star ∷ Read sort.Unary ∷ Join (node.Binary binary.Multiply) ∷ Read sort.ProdTail ∷ [])
prod_tail term.Slash = Some (Expect term.Slash ∷ Read sort.Unary ∷ Join (node.Binary binary.Divide) ∷ Read sort.ProdTail ∷ [])
prod_tail term.Percent = Some (Expect term.Percent ∷ Read sort.Unary ∷ Join (node.Binary binary.Remainder) ∷ Read sort.ProdTail ∷ [])
prod_tail ahead = Some []

-- unary = ( - | ! ) unary | number | ( expression ) | getter ( ) | place
abbrev pub unary : Term → Option (List Step)
unary term.Minus = Some (Open ∷ Deepen term.Minus ∷ Read sort.Unary ∷ Make (node.Unary unary_op.Negate) ∷ Rise ∷ [])
unary term.Not = Some (Open ∷ Deepen term.Not ∷ Read sort.Unary ∷ Make (node.Unary unary_op.Not) ∷ Rise ∷ [])
unary term.Number = Some (Open ∷ Take class.Number ∷ Make node.Number ∷ [])
unary term.OpenParen = Some (Open ∷ Deepen term.OpenParen ∷ Read sort.Expr ∷ Expect term.CloseParen ∷ Make node.Paren ∷ Rise ∷ [])
unary term.GetThreadNum = Some (Open ∷ Take (class.Routine getter.ThreadNum) ∷ Read (sort.AfterGetter getter.ThreadNum) ∷ [])
unary term.GetNumThreads = Some (Open ∷ Take (class.Routine getter.NumThreads) ∷ Read (sort.AfterGetter getter.NumThreads) ∷ [])
unary term.GetMaxThreads = Some (Open ∷ Take (class.Routine getter.MaxThreads) ∷ Read (sort.AfterGetter getter.MaxThreads) ∷ [])
unary ahead = Some (Open ∷ Take class.Name ∷ Read sort.IndexPart ∷ Make node.Place ∷ [])

-- [ [ expression ] ]
abbrev pub index_part : Term → Option (List Step)
index_part term.OpenBracket = Some (Deepen term.OpenBracket ∷ Read sort.Expr ∷ Expect term.CloseBracket ∷ Rise ∷ [])
index_part ahead = Some []

-- .. ( ), or in the head of a directive the routine's name as a place
abbrev pub after_getter : Getter → Term → Option (List Step)
after_getter which term.OpenParen = Some (Expect term.OpenParen ∷ Expect term.CloseParen ∷ Make (node.Getter which) ∷ [])
after_getter which ahead = Some (InHead ∷ Read sort.IndexPart ∷ Make node.Place ∷ [])

-- a directive without statement, or a construct, which counts for the depth only now
abbrev pub item_directive : Term → Option (List Step)
item_directive term.Barrier = Some (Expect term.Barrier ∷ Expect term.PragmaEnd ∷ Make (node.Standalone standalone.Barrier) ∷ [])
item_directive term.Taskwait = Some (Expect term.Taskwait ∷ Expect term.PragmaEnd ∷ Make (node.Standalone standalone.Taskwait) ∷ [])
item_directive term.Parallel = Some (Deepen term.Parallel ∷ Read (sort.Behind directive.Parallel) ∷ Rise ∷ [])
item_directive term.For = Some (Deepen term.For ∷ Read (sort.Behind directive.For) ∷ Rise ∷ [])
item_directive term.Sections = Some (Deepen term.Sections ∷ Read (sort.Behind directive.Sections) ∷ Rise ∷ [])
item_directive term.Single = Some (Deepen term.Single ∷ Read (sort.Behind directive.Single) ∷ Rise ∷ [])
item_directive term.Masked = Some (Deepen term.Masked ∷ Read (sort.Behind directive.Masked) ∷ Rise ∷ [])
item_directive term.Master = Some (Deepen term.Master ∷ Read (sort.Behind directive.Master) ∷ Rise ∷ [])
item_directive term.Critical = Some (Deepen term.Critical ∷ Read (sort.Behind directive.Critical) ∷ Rise ∷ [])
item_directive term.Task = Some (Deepen term.Task ∷ Read (sort.Behind directive.Task) ∷ Rise ∷ [])
item_directive ahead = None

-- construct = # directive { [ , ] clause } statement, from the directive on
abbrev pub construct : Term → Option (List Step)
construct term.Parallel = Some (Expect term.Parallel ∷ Read (sort.Behind directive.Parallel) ∷ Rise ∷ [])
construct term.For = Some (Expect term.For ∷ Read (sort.Behind directive.For) ∷ Rise ∷ [])
construct term.Sections = Some (Expect term.Sections ∷ Read (sort.Behind directive.Sections) ∷ Rise ∷ [])
construct term.Single = Some (Expect term.Single ∷ Read (sort.Behind directive.Single) ∷ Rise ∷ [])
construct term.Masked = Some (Expect term.Masked ∷ Read (sort.Behind directive.Masked) ∷ Rise ∷ [])
construct term.Master = Some (Expect term.Master ∷ Read (sort.Behind directive.Master) ∷ Rise ∷ [])
construct term.Critical = Some (Expect term.Critical ∷ Read (sort.Behind directive.Critical) ∷ Rise ∷ [])
construct term.Task = Some (Expect term.Task ∷ Read (sort.Behind directive.Task) ∷ Rise ∷ [])
construct ahead = None

-- what follows the first word of a directive
abbrev pub behind_directive : Directive → Term → Option (List Step)
behind_directive directive.Parallel ahead = Some (Read sort.AfterParallel ∷ [])
behind_directive directive.For ahead = Some (Read (sort.Clauses directive.For) ∷ Expect term.PragmaEnd ∷ Read sort.Statement ∷ Make (node.Construct directive.For) ∷ [])
behind_directive directive.Sections ahead = Some (Read (sort.Clauses directive.Sections) ∷ Expect term.PragmaEnd ∷ Read sort.SectionsBody ∷ Make (node.Construct directive.Sections) ∷ [])
behind_directive directive.Single ahead = Some (Read (sort.Clauses directive.Single) ∷ Expect term.PragmaEnd ∷ Read sort.Statement ∷ Make (node.Construct directive.Single) ∷ [])
behind_directive directive.ParallelFor ahead = Some (Read (sort.Clauses directive.ParallelFor) ∷ Expect term.PragmaEnd ∷ Read sort.Statement ∷ Make (node.Construct directive.ParallelFor) ∷ [])
behind_directive directive.ParallelSections ahead = Some (Read (sort.Clauses directive.ParallelSections) ∷ Expect term.PragmaEnd ∷ Read sort.SectionsBody ∷ Make (node.Construct directive.ParallelSections) ∷ [])
behind_directive directive.Masked ahead = Some (Expect term.PragmaEnd ∷ Read sort.Statement ∷ Make (node.Construct directive.Masked) ∷ [])
behind_directive directive.Master ahead = Some (Expect term.PragmaEnd ∷ Read sort.Statement ∷ Make (node.Construct directive.Master) ∷ [])
behind_directive directive.Critical ahead = Some (Read sort.CriticalName ∷ Expect term.PragmaEnd ∷ Read sort.Statement ∷ Make (node.Construct directive.Critical) ∷ [])
behind_directive directive.Task ahead = Some (Read (sort.Clauses directive.Task) ∷ Expect term.PragmaEnd ∷ Read sort.Statement ∷ Make (node.Construct directive.Task) ∷ [])

-- parallel, parallel for, parallel sections
abbrev pub after_parallel : Term → Option (List Step)
after_parallel term.For = Some (Expect term.For ∷ Read (sort.Behind directive.ParallelFor) ∷ [])
after_parallel term.Sections = Some (Expect term.Sections ∷ Read (sort.Behind directive.ParallelSections) ∷ [])
after_parallel ahead = Some (Read (sort.Clauses directive.Parallel) ∷ Expect term.PragmaEnd ∷ Read sort.Statement ∷ Make (node.Construct directive.Parallel) ∷ [])

-- [ ( name ) ]
abbrev pub critical_name : Term → Option (List Step)
critical_name term.OpenParen = Some (Expect term.OpenParen ∷ Open ∷ Take class.Name ∷ Make node.Name ∷ Expect term.CloseParen ∷ [])
critical_name ahead = Some []

-- { ( statement | section ) { section } }
abbrev pub sections_body : Term → Option (List Step)
sections_body ahead = Some (Expect term.OpenBrace ∷ Read sort.FirstSection ∷ Read sort.MoreSections ∷ Expect term.CloseBrace ∷ [])

-- statement | section
abbrev pub first_section : Term → Option (List Step)
first_section term.Pragma = Some (Open ∷ Deepen term.Pragma ∷ Read sort.SectionOrConstruct ∷ [])
first_section ahead = Some (Read sort.PlainStatement ∷ [])

-- .. behind the head of its directive
abbrev pub section_or_construct : Term → Option (List Step)
section_or_construct term.Section = Some (Expect term.Section ∷ Expect term.PragmaEnd ∷ Read sort.Statement ∷ Make node.Section ∷ Rise ∷ [])
section_or_construct ahead = Some (Read sort.Construct ∷ [])

-- { section }
abbrev pub more_sections : Term → Option (List Step)
more_sections term.Pragma = Some (Open ∷ Deepen term.Pragma ∷ Expect term.Section ∷ Expect term.PragmaEnd ∷ Read sort.Statement ∷ Make node.Section ∷ Rise ∷ Read sort.MoreSections ∷ [])
more_sections ahead = Some []

-- which directives have which clauses
abbrev pub forks : Directive → Bool
forks directive.Parallel = true
forks directive.ParallelFor = true
forks directive.ParallelSections = true
forks other = false

abbrev pub shares : Directive → Bool
shares directive.Parallel = true
shares directive.ParallelFor = true
shares directive.ParallelSections = true
shares directive.Task = true
shares other = false

abbrev pub has_data : Directive → Bool
has_data directive.Parallel = true
has_data directive.For = true
has_data directive.Sections = true
has_data directive.Single = true
has_data directive.ParallelFor = true
has_data directive.ParallelSections = true
has_data directive.Task = true
has_data other = false

abbrev pub reduces : Directive → Bool
reduces directive.Parallel = true
reduces directive.For = true
reduces directive.Sections = true
reduces directive.ParallelFor = true
reduces directive.ParallelSections = true
reduces other = false

abbrev pub schedules : Directive → Bool
schedules directive.For = true
schedules directive.ParallelFor = true
schedules other = false

abbrev pub waits : Directive → Bool
waits directive.For = true
waits directive.Sections = true
waits directive.Single = true
waits other = false

abbrev pub defers : Directive → Bool
defers directive.Task = true
defers other = false

abbrev pub given : Bool → List Step → Option (List Step)
given true steps = Some steps
given false steps = None

-- a clause that its directive has
abbrev pub clause : Directive → Term → Option (List Step)
clause directive term.NumThreads = given (forks directive) (Open ∷ Expect term.NumThreads ∷ Expect term.OpenParen ∷ Read sort.Expr ∷ Expect term.CloseParen ∷ Make node.NumThreads ∷ [])
clause directive term.Default = given (shares directive) (Open ∷ Expect term.Default ∷ Expect term.OpenParen ∷ Read sort.DefaultWord ∷ [])
clause directive term.Shared = given (shares directive) (Open ∷ Expect term.Shared ∷ Expect term.OpenParen ∷ Read sort.Names ∷ Expect term.CloseParen ∷ Make (node.Data data_clause.Shared) ∷ [])
clause directive term.Private = given (has_data directive) (Open ∷ Expect term.Private ∷ Expect term.OpenParen ∷ Read sort.Names ∷ Expect term.CloseParen ∷ Make (node.Data data_clause.Private) ∷ [])
clause directive term.Firstprivate = given (has_data directive) (Open ∷ Expect term.Firstprivate ∷ Expect term.OpenParen ∷ Read sort.Names ∷ Expect term.CloseParen ∷ Make (node.Data data_clause.Firstprivate) ∷ [])
clause directive term.Reduction = given (reduces directive) (Open ∷ Expect term.Reduction ∷ Expect term.OpenParen ∷ Read sort.Operator ∷ [])
clause directive term.Schedule = given (schedules directive) (Open ∷ Expect term.Schedule ∷ Expect term.OpenParen ∷ Read sort.Kind ∷ [])
clause directive term.Nowait = given (waits directive) (Open ∷ Expect term.Nowait ∷ Make node.Nowait ∷ [])
clause directive term.If = given (defers directive) (Open ∷ Expect term.If ∷ Expect term.OpenParen ∷ Read sort.Expr ∷ Expect term.CloseParen ∷ Make node.IfClause ∷ [])
clause directive ahead = None

-- { [ , ] clause }
abbrev pub clauses : Directive → Term → Option (List Step)
clauses directive term.PragmaEnd = Some []
clauses directive term.Comma = Some (Expect term.Comma ∷ Read (sort.Clause directive) ∷ Wrap (node.Clause lead.Comma) ∷ Read (sort.Clauses directive) ∷ [])
clauses directive ahead = Some (Read (sort.Clause directive) ∷ Wrap (node.Clause lead.Blank) ∷ Read (sort.Clauses directive) ∷ [])

-- shared | none
abbrev pub default_word : Term → Option (List Step)
default_word term.Shared = Some (Expect term.Shared ∷ Expect term.CloseParen ∷ Make (node.Default default.Shared) ∷ [])
default_word term.None = Some (Expect term.None ∷ Expect term.CloseParen ∷ Make (node.Default default.None) ∷ [])
default_word ahead = None

-- ( + | * | max | min ) : names
abbrev pub operator : Term → Option (List Step)
operator term.Plus = Some (Expect term.Plus ∷ Expect term.Colon ∷ Read sort.Names ∷ Expect term.CloseParen ∷ Make (node.Reduction reduction.Add) ∷ [])
operator term.Star = Some (Expect term.Star ∷ Expect term.Colon ∷ Read sort.Names ∷ Expect term.CloseParen ∷ Make (node.Reduction reduction.Multiply) ∷ [])
operator term.Max = Some (Expect term.Max ∷ Expect term.Colon ∷ Read sort.Names ∷ Expect term.CloseParen ∷ Make (node.Reduction reduction.Max) ∷ [])
operator term.Min = Some (Expect term.Min ∷ Expect term.Colon ∷ Read sort.Names ∷ Expect term.CloseParen ∷ Make (node.Reduction reduction.Min) ∷ [])
operator ahead = None

-- ( static | dynamic | guided ) [ , number ]
abbrev pub kind_word : Term → Option (List Step)
kind_word term.Static = Some (Expect term.Static ∷ Read sort.ChunkPart ∷ Expect term.CloseParen ∷ Make (node.Schedule kind.Static) ∷ [])
kind_word term.Dynamic = Some (Expect term.Dynamic ∷ Read sort.ChunkPart ∷ Expect term.CloseParen ∷ Make (node.Schedule kind.Dynamic) ∷ [])
kind_word term.Guided = Some (Expect term.Guided ∷ Read sort.ChunkPart ∷ Expect term.CloseParen ∷ Make (node.Schedule kind.Guided) ∷ [])
kind_word ahead = None

-- [ , number ]
abbrev pub chunk_part : Term → Option (List Step)
chunk_part term.Comma = Some (Expect term.Comma ∷ Open ∷ Take class.Number ∷ Make node.Number ∷ [])
chunk_part ahead = Some []

-- name { , name }
abbrev pub names : Term → Option (List Step)
names ahead = Some (Open ∷ Take class.Name ∷ Make node.Name ∷ Read sort.MoreNames ∷ [])

-- .. { , name }
abbrev pub more_names : Term → Option (List Step)
more_names term.Comma = Some (Expect term.Comma ∷ Open ∷ Take class.Name ∷ Make node.Name ∷ Read sort.MoreNames ∷ [])
more_names ahead = Some []

-- what a sort of text is read by, where this word is next; none where no text of the sort begins so
abbrev pub choice : Sort → Term → Option (List Step)
choice sort.Program ahead = program ahead
choice sort.Globals ahead = globals ahead
choice sort.AfterIntName ahead = after_int_name ahead
choice sort.Body ahead = body ahead
choice sort.Params ahead = parameters ahead
choice sort.MoreParams ahead = more_params ahead
choice sort.GlobalRest ahead = global_rest ahead
choice sort.Initial ahead = initial ahead
choice sort.MoreGlobals ahead = more_globals ahead
choice sort.Locks ahead = locks ahead
choice sort.MoreLocks ahead = more_locks ahead
choice sort.Block ahead = block ahead
choice sort.Items ahead = items ahead
choice sort.Locals ahead = locals ahead
choice sort.LocalRest ahead = local_rest ahead
choice sort.MoreLocals ahead = more_locals ahead
choice sort.Right ahead = right ahead
choice sort.AfterRightName ahead = after_right_name ahead
choice sort.Statement ahead = statement ahead
choice sort.PlainStatement ahead = plain_statement ahead
choice sort.AfterStatementName ahead = after_statement_name ahead
choice sort.AfterPlace ahead = after_place ahead
choice sort.AssignRight ahead = assign_right ahead
choice sort.AfterAssignName ahead = after_assign_name ahead
choice sort.Place ahead = place ahead
choice sort.Args ahead = args ahead
choice sort.MoreArgs ahead = more_args ahead
choice sort.ElsePart ahead = else_part ahead
choice sort.InitPart ahead = init_part ahead
choice sort.CondPart ahead = cond_part ahead
choice sort.StepPart ahead = step_part ahead
choice sort.StepRest ahead = step_rest ahead
choice sort.ReturnPart ahead = return_part ahead
choice sort.Expr ahead = expr ahead
choice sort.OrTail ahead = or_tail ahead
choice sort.AndChain ahead = and_chain ahead
choice sort.AndTail ahead = and_tail ahead
choice sort.EqualChain ahead = equal_chain ahead
choice sort.EqualTail ahead = equal_tail ahead
choice sort.RelChain ahead = rel_chain ahead
choice sort.RelTail ahead = rel_tail ahead
choice sort.SumChain ahead = sum_chain ahead
choice sort.SumTail ahead = sum_tail ahead
choice sort.ProdChain ahead = prod_chain ahead
choice sort.ProdTail ahead = prod_tail ahead
choice sort.Unary ahead = unary ahead
choice sort.IndexPart ahead = index_part ahead
choice (sort.AfterGetter which) ahead = after_getter which ahead
choice sort.ItemDirective ahead = item_directive ahead
choice sort.Construct ahead = construct ahead
choice (sort.Behind directive) ahead = behind_directive directive ahead
choice sort.AfterParallel ahead = after_parallel ahead
choice sort.CriticalName ahead = critical_name ahead
choice sort.SectionsBody ahead = sections_body ahead
choice sort.FirstSection ahead = first_section ahead
choice sort.SectionOrConstruct ahead = section_or_construct ahead
choice sort.MoreSections ahead = more_sections ahead
choice (sort.Clauses directive) ahead = clauses directive ahead
choice sort.DefaultWord ahead = default_word ahead
choice sort.Operator ahead = operator ahead
choice sort.Kind ahead = kind_word ahead
choice sort.ChunkPart ahead = chunk_part ahead
choice sort.Names ahead = names ahead
choice sort.MoreNames ahead = more_names ahead
choice (sort.Clause directive) ahead = clause directive ahead
