-- Meetings are the same where all of them is the same.
use Rattle.std.proofs.Common.{◌≡◌, ℤ, true, IsTrue, ap}
use Rattle.std.specs.Ordering.{int_eq}
use Rattle.std.proofs.lemmas.Bool.{and_parts, eqb-true, false≢true}
use Rattle.std.proofs.lemmas.Bool.Decides.{Decides-int_eq}
use Rattle.team_parts.specs.declared.meeting.Schedule.{Schedule}
use Rattle.team_parts.specs.declared.meeting.Schedule.TheVariants.{Static, Dynamic, Guided}
use Rattle.team_parts.specs.declared.meeting.Meeting.{Meeting}
use Rattle.team_parts.specs.declared.meeting.Meeting.TheVariants.{Loop, Sections, Single, Barrier}
use Rattle.team_parts.specs.Meetings.{is_same, is_same_schedule}

int_eq-true : (x y : ℤ) → int_eq x y ≡ true → x ≡ y
int_eq-true x y same = (Decides-int_eq x y).0 same

equal-schedule : (first second : Schedule) → IsTrue (is_same_schedule first second) → first ≡ second
equal-schedule (Static chunk) (Static other) same = ap Static (eqb-true chunk other same)
equal-schedule (Dynamic chunk) (Dynamic other) same = ap Dynamic (eqb-true chunk other same)
equal-schedule (Guided chunk) (Guided other) same = ap Guided (eqb-true chunk other same)
equal-schedule _ _ same = absurd (false≢true same)

pub equal-meeting : (first second : Meeting) → IsTrue (is_same first second) → first ≡ second
equal-meeting (Loop at start count step schedule) (Loop at' start' count' step' schedule') same =
    let steps = and_parts _ _ same in
    let counts = and_parts _ _ steps.0 in
    let starts = and_parts _ _ counts.0 in
    let places = and_parts _ _ starts.0 in
    let at_same = eqb-true at at' places.0 in
    let start_same = int_eq-true start start' places.1 in
    let count_same = eqb-true count count' starts.1 in
    let step_same = int_eq-true step step' counts.1 in
    let schedule_same = equal-schedule schedule schedule' steps.1 in
    cc
equal-meeting (Sections at count) (Sections at' count') same =
    let both = and_parts _ _ same in
    let at_same = eqb-true at at' both.0 in
    let count_same = eqb-true count count' both.1 in
    cc
equal-meeting (Single at) (Single at') same = ap Single (eqb-true at at' same)
equal-meeting (Barrier at kind) (Barrier at' kind') same =
    let both = and_parts _ _ same in
    let at_same = eqb-true at at' both.0 in
    let kind_same = eqb-true kind kind' both.1 in
    cc
equal-meeting _ _ same = absurd (false≢true same)
