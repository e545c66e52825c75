-- No act of a tree ends the text.
use Rattle.std.specs.Prelude.{◌≡◌, Bool, true, false, List, [], ◌∷◌, ◌++◌, refl}
use Rattle.std.proofs.Common.{inl, inr, subst, true≢false}
use Rattle.std.specs.List.{IsAmong}
use Rattle.c_tokens.specs.declared.token.Spot.{Spot}
use Rattle.c_syntax.specs.language.Tree.{children_of}
use Rattle.c_check.specs.declared.acts.act.Act.{Act}
use Rattle.c_check.specs.declared.acts.act.Act.TheVariants.{Close, End, Finish, Leave, Use}
use Rattle.c_check.specs.Clauses.{inside_acts}
use Rattle.c_check.specs.Loops.{has_form}
use Rattle.c_check.specs.Here.{Here, after}
use Rattle.c_check.specs.Rules.{unlisted_uses}
use Rattle.c_check.specs.Statements.{statement_of}
use Rattle.check_laws.specs.Scopes.{Declaration, Position}
use Rattle.check_laws.specs.ListedNames.{Used, used}
use Rattle.check_laws.proofs.Broken.{BreaksIn}
use Rattle.check_laws.proofs.Does.{AreUses, Does, IsUse, is_silent}
use Rattle.check_laws.proofs.Means.{not-among}
use Rattle.check_laws.proofs.Parts.{odd_acts}
use Rattle.check_laws.proofs.Inside.{AreInforming, inside-informing, is_informing}

abbrev pub is_finish : Act → Bool
is_finish (Finish spot) = true
is_finish other = false

abbrev pub AreUnfinished : List Act → Type 0
AreUnfinished [] = Unit {0}
AreUnfinished (act ∷ acts) = (is_finish act ≡ false) × AreUnfinished acts

both-unfinished : (some more : List Act) → AreUnfinished some → AreUnfinished more → AreUnfinished (some ++ more)
both-unfinished [] more are also = also
both-unfinished (act ∷ some) more are also = (are.0, both-unfinished some more are.1 also)

silent-unfinished : (act : Act) → is_silent act ≡ true → is_finish act ≡ false
silent-unfinished (Finish spot) is = absurd (let wrong : false ≡ true = is in cc)
silent-unfinished other is = refl

use-unfinished : (act : Act) (one : Used) → IsUse act one → is_finish act ≡ false
use-unfinished (Use name spot usage) one is = refl
use-unfinished other one is = absurd is

uses-unfinished : (acts : List Act) (some : List Used) → AreUses acts some → AreUnfinished acts
uses-unfinished [] some are = tt
uses-unfinished (act ∷ acts) [] are = absurd are
uses-unfinished (act ∷ acts) (one ∷ some) are = (use-unfinished act one are.0, uses-unfinished acts some are.1)

informing-unfinished : (act : Act) → is_informing act ≡ true → is_finish act ≡ false
informing-unfinished (Finish spot) is = absurd (let wrong : false ≡ true = is in cc)
informing-unfinished other is = refl

all-unfinished : (acts : List Act) → AreInforming acts → AreUnfinished acts
all-unfinished [] are = tt
all-unfinished (act ∷ acts) are = (informing-unfinished act are.0, all-unfinished acts are.1)

odd-unfinished : (form : Bool) → AreUnfinished (odd_acts form)
odd-unfinished true = tt
odd-unfinished false = (refl, tt)

pub does-unfinished : {file : Bool} {some : List Act} {made : List Declaration} {nodes : List Position} → Does file some made nodes → AreUnfinished some
does-unfinished (Does.nothing file) = tt
does-unfinished (Does.both file some more first second nodes others one two) = both-unfinished some more (does-unfinished one) (does-unfinished two)
does-unfinished (Does.front file some made one nodes others it) = does-unfinished it
does-unfinished (Does.plainly file some made nodes tree scope plain it) = does-unfinished it
does-unfinished (Does.silent file act is) = (silent-unfinished act is, tt)
does-unfinished (Does.uses file some tree still are) = uses-unfinished some (used tree) are
does-unfinished (Does.assigns file name tree no_construct assigns none) = (refl, tt)
does-unfinished (Does.declares file name spot what) = (refl, tt)
does-unfinished (Does.scoped file some made nodes it) = (refl, both-unfinished some (Close ∷ []) (does-unfinished it) (refl, tt))
does-unfinished (Does.function name spot returns parameters some made nodes it) = (refl, both-unfinished some (End ∷ []) (does-unfinished it) (refl, tt))
does-unfinished (Does.constructs me which critical some nodes kind shares inside it) =
    (refl, both-unfinished (inside_acts (children_of me)) _ (all-unfinished (inside_acts (children_of me)) (inside-informing (children_of me))) (both-unfinished some (Leave ∷ []) (does-unfinished it) (refl, tt)))
does-unfinished (Does.misses me which critical some nodes kind shares unnamed inside it) = (
  refl,
  both-unfinished (inside_acts (children_of me)) _ (all-unfinished (inside_acts (children_of me)) (inside-informing (children_of me)))
      (both-unfinished _ (Leave ∷ []) (both-unfinished (odd_acts (has_form (statement_of (children_of me)))) some (odd-unfinished (has_form (statement_of (children_of me)))) (does-unfinished it)) (refl, tt)),
)
does-unfinished (Does.shares me which critical name it kind shares named inside head inner) = (
  refl,
  both-unfinished (inside_acts (children_of me)) _ (all-unfinished (inside_acts (children_of me)) (inside-informing (children_of me)))
      (both-unfinished _ (Leave ∷ [])
      (both-unfinished (odd_acts (has_form (statement_of (children_of me)))) _ (odd-unfinished (has_form (statement_of (children_of me))))
      (refl, both-unfinished _ (Close ∷ []) (both-unfinished it.head_acts _ (does-unfinished head) (refl, does-unfinished inner)) (refl, tt))) (refl, tt)),
)

unlisted-later : (here : Here) (act : Act) → is_finish act ≡ false → unlisted_uses here act ≡ []
unlisted-later here (Finish spot) is = absurd (true≢false is)
unlisted-later here other is = refl

-- so none of them breaks the rule that is told at the end
pub none-before : (here : Here) (acts : List Act) → AreUnfinished acts → (spot : Spot) → BreaksIn unlisted_uses here acts spot → ⊥
none-before here [] are spot breaks = breaks
none-before here (act ∷ acts) are spot (inl now) = not-among spot (subst (λ (some : List Spot). IsAmong some spot) (unlisted-later here act are.0) now)
none-before here (act ∷ acts) are spot (inr later) = none-before (after here act) acts are.1 spot later
