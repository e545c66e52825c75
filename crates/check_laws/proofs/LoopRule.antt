-- What a part of a tree does by the rule on loops.
use Rattle.std.specs.Prelude.{◌≡◌, Bool, true, false, List, [], ◌∷◌, ◌++◌, None}
use Rattle.std.proofs.Common.{ap, ◌∙◌, inl, inr}
use Rattle.c_syntax.specs.declared.node.Directive.{Directive}
use Rattle.c_syntax.specs.declared.node.NodeKind.{NodeKind}
use Rattle.c_syntax.specs.declared.node.NodeKind.TheVariants as node
use Rattle.c_syntax.specs.language.Tree.{Tree, children_of, kind_of, spot_of}
use Rattle.c_check.specs.declared.acts.act.Act.{Act}
use Rattle.c_check.specs.declared.acts.act.Act.TheVariants.{Barrier, Print, Return, Use}
use Rattle.c_check.specs.declared.acts.role.Role.TheVariants as role
use Rattle.c_check.specs.Acts.{acts}
use Rattle.c_check.specs.Clauses.{inside_acts}
use Rattle.c_check.specs.Statements.{shares_loop, statement_of}
use Rattle.check_laws.specs.Scopes.{Declaration, Position, behind, positions}
use Rattle.check_laws.specs.LoopForm.{assigned_by, assigned_variable, is_loop_construct}
use Rattle.check_laws.specs.ListedNames.{Used, used}
use Rattle.check_laws.proofs.Constructing.{construct-means, inner-plain, inner-position, inner-same}
use Rattle.check_laws.proofs.Does.{AreUses, Does, IsStill, IsUse, is_silent, no-loop, still-no-loop}
use Rattle.check_laws.proofs.Has.{Has, front-has, has-front}
use Rattle.check_laws.proofs.Informing.{inside-informs}
use Rattle.check_laws.proofs.Means.{IsPlain, IsSilent, Means, barrier-silent, means-assign, means-both, means-declare, means-function, means-nothing, means-plain, means-same, means-scope, means-silent, print-silent, return-silent, use-silent}
use Rattle.check_laws.proofs.Parts.{LoopParts, part_declared, position}
use Rattle.check_laws.proofs.SharedLoops.{SharedLoop, inner-loop}
use Rattle.check_laws.proofs.Sharing.{inner-other}

still-plain : (tree : Tree) → IsStill tree → IsPlain tree
still-plain tree still = record { is_no_loop = still-no-loop tree still; assigns_none = still.assigns_none }

silent : (act : Act) → is_silent act ≡ true → IsSilent act
silent (Print spot printed) is = print-silent spot printed
silent (Return spot returned) is = return-silent spot returned
silent (Barrier spot) is = barrier-silent spot
silent other is = absurd (let no : false ≡ true = is in cc)

pub use-is-silent : (act : Act) (one : Used) → IsUse act one → IsSilent act
use-is-silent (Use name spot usage) one is = use-silent name spot usage
use-is-silent other one is = absurd is

uses-mean : (file : Bool) (acts : List Act) (some : List Used) → AreUses acts some → Means file acts [] []
uses-mean file [] [] are = means-nothing file
uses-mean file [] (one ∷ some) are = absurd are
uses-mean file (act ∷ acts) [] are = absurd are
uses-mean file (act ∷ acts) (one ∷ some) are = means-both file (act ∷ []) acts [] [] [] [] (means-silent file act (use-is-silent act one are.0)) (uses-mean file acts some are.1)

swap-has : (one other : Position) (nodes : List Position) (P : Position → Type 0) → Has P (one ∷ other ∷ nodes) → Has P (other ∷ one ∷ nodes)
swap-has one other nodes P (inl here) = inr (inl here)
swap-has one other nodes P (inr (inl here)) = inl here
swap-has one other nodes P (inr (inr there)) = inr (inr there)

pub shares-same : (me : Tree) (which : Directive) (so : Bool) → kind_of me ≡ node.Construct which → shares_loop which ≡ so → is_loop_construct (kind_of me) ≡ so
shares-same me which so kind is = ap is_loop_construct kind ∙ is

pub construct-none : (me : Tree) (which : Directive) → kind_of me ≡ node.Construct which → assigned_variable me ≡ None
construct-none me which kind = ap (λ (kind : NodeKind). assigned_by kind (children_of me)) kind

abbrev pub shared-loop : (loop : Tree) (it : LoopParts loop) → Means false it.head_acts (part_declared it.begins) it.head_nodes → Means false (acts role.Plain it.body) [] (positions it.body) → SharedLoop loop
shared-loop loop it head inner = record { parts = it; head = head; inner = inner }

pub does-mean : {file : Bool} {some : List Act} {made : List Declaration} {nodes : List Position} → Does file some made nodes → Means file some made nodes
does-mean (Does.nothing file) = means-nothing file
does-mean (Does.both file some more first second nodes others one two) = means-both file some more first second nodes others (does-mean one) (does-mean two)
does-mean (Does.front file acts made one nodes others it) = means-same file acts made (nodes ++ one ∷ others) (one ∷ (nodes ++ others)) (front-has one nodes others) (has-front one nodes others) (does-mean it)
does-mean (Does.plainly file acts made nodes tree scope plain it) = means-plain file acts made nodes tree scope (still-plain tree plain.still) (does-mean it)
does-mean (Does.silent file act is) = means-silent file act (silent act is)
does-mean (Does.uses file acts tree still are) = means-plain file acts [] [] tree [] (still-plain tree still) (uses-mean file acts (used tree) are)
does-mean (Does.assigns file name tree no_construct assigns none) = means-assign name tree (no-loop (kind_of tree) no_construct) assigns file
does-mean (Does.declares file name spot what) = means-declare file name spot what
does-mean (Does.scoped file acts made nodes it) = means-scope file acts made nodes (does-mean it)
does-mean (Does.function name spot returns parameters acts made nodes it) = means-function name spot returns parameters acts made nodes (does-mean it)
does-mean (Does.constructs me which critical some nodes kind shares inside it) =
    construct-means (spot_of me) which critical (inside_acts (children_of me)) _ _ (inside-informs (children_of me))
    (inner-position (spot_of me) some nodes me (record { is_no_loop = shares-same me which false kind shares; assigns_none = construct-none me which kind }) (inner-plain (spot_of me) some nodes (does-mean it)))
does-mean (Does.misses me which critical some nodes kind shares unnamed inside it) =
    construct-means (spot_of me) which critical (inside_acts (children_of me)) _ _ (inside-informs (children_of me))
    (inner-other me (shares-same me which true kind shares) (construct-none me which kind) some nodes (does-mean it) unnamed)
does-mean (Does.shares me which critical name it kind shares named inside head inner) =
    let loop = statement_of (children_of me) in
    let rest = it.head_nodes ++ behind (part_declared it.begins) (positions it.body) in
    let shared = shared-loop loop it (does-mean head) (does-mean inner) in
    let within = inner-loop me (shares-same me which true kind shares) (construct-none me which kind) shared name named in
    let more = inner-position (spot_of me) _ _ loop (record {
      is_no_loop = ap is_loop_construct it.kind;
      assigns_none = ap (λ (kind : NodeKind). assigned_by kind (children_of loop)) it.kind;
    }) within in
    construct-means (spot_of me) which critical (inside_acts (children_of me)) _ _ (inside-informs (children_of me))
    (inner-same (spot_of me) _ (position loop ∷ position me ∷ rest) (position me ∷ position loop ∷ rest) (swap-has (position loop) (position me) rest) (swap-has (position me) (position loop) rest) more)
