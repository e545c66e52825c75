-- A member waits at a barrier: the counters let its wait end just where the team does, and count that it has arrived and that it has passed.
use Rattle.std.proofs.Common.{◌≡◌, ℕ, ◌-◌, ◌<◌, nat_le, ◌==◌, ◌&&◌, ◌||◌, Bool, true, false, List, [], ◌∷◌, length, set, count_by, All, refl, sym, ap, ap₂, ◌∙◌, arith}
use Rattle.std.specs.List.{list_all, list_any}
use Rattle.std.proofs.lemmas.Bool.{false≢true}
use Rattle.std.proofs.lemmas.List.{get_or-set_same, length-set, map-set}
use Rattle.std.proofs.lemmas.List.Elements.{All-from_get_or}
use Rattle.std.proofs.lemmas.List.Folds.{list_all-map}
use Rattle.team_parts.specs.declared.member.Member.{Member}
use Rattle.team_parts.specs.Team as counters
use Rattle.team_parts.specs.Team.{TeamView, member_at}
use Rattle.team_words.specs.Team.{Met, Team, has_arrived, has_passed, is_at_barrier, may_pass, met_at, met_by, not_met, with_arrived, with_passed}
use Rattle.team_words.specs.Counted.{counted_member, is_arrived, is_met_at_barrier, is_passed}
use Rattle.team_words.proofs.ChangedLists.{all-alike, any-alike, any-map, count-kept, read-alike}
use Rattle.team_words.proofs.Flags.{HaveMetAlike, IsInOrder, order-all, order-last, reaches}
use Rattle.team_words.proofs.Keeping.{Keeps, keeps-flagged, member-is}

-- who is at a barrier has met something
pub barrier-some : (mets : List Met) → is_at_barrier mets ≡ true → 0 < length mets
barrier-some [] at = absurd (false≢true at)
barrier-some (met ∷ mets) at = omega arith

-- ---- whether a wait may end

-- what two members have met is what the counters have
have-alike : (team : Team) (view : TeamView) (i j : ℕ) → Keeps team.members view → HaveMetAlike (met_by team i) (met_by team j)
have-alike team view i j keeps = λ k one other. sym (keeps.each i k one).same ∙ (keeps.each j k other).same

reaches-each : (team : Team) (view : TeamView) (i : ℕ) (flag : Met → Bool) → flag not_met ≡ false → ((j : ℕ) → IsInOrder flag (met_by team j)) → Keeps team.members view → is_at_barrier (met_by team i) ≡ true → All (λ (mets : List Met). nat_le (count_by is_met_at_barrier (met_by team i)) (count_by flag mets) ≡ flag (met_at (length (met_by team i) - 1) mets)) team.members
reaches-each team view i flag none order keeps at =
    let own = met_by team i in
    let some = barrier-some own at in
    All-from_get_or (λ (mets : List Met). nat_le (count_by is_met_at_barrier own) (count_by flag mets) ≡ flag (met_at (length own - 1) mets)) team.members []
    (λ j of_team. reaches flag none own (length own - 1) (met_by team j) (omega arith) at (have-alike team view i j keeps) (order j))

all-begun : (team : Team) (view : TeamView) (i : ℕ) → Keeps team.members view → is_at_barrier (met_by team i) ≡ true → list_all (counters.has_begun (count_by is_met_at_barrier (met_by team i))) view.members ≡ list_all (has_arrived (length (met_by team i) - 1)) team.members
all-begun team view i keeps at =
    let barriers = count_by is_met_at_barrier (met_by team i) in
    ap (λ (xs : List Member). list_all (counters.has_begun barriers) xs) keeps.counted
    ∙ list_all-map (counters.has_begun barriers) counted_member team.members
    ∙ all-alike (λ (mets : List Met). counters.has_begun barriers (counted_member mets)) (has_arrived (length (met_by team i) - 1)) team.members (reaches-each team view i is_arrived refl keeps.arrived keeps at)

any-passed : (team : Team) (view : TeamView) (i : ℕ) → Keeps team.members view → is_at_barrier (met_by team i) ≡ true → list_any (counters.has_passed (count_by is_met_at_barrier (met_by team i))) view.members ≡ list_any (has_passed (length (met_by team i) - 1)) team.members
any-passed team view i keeps at =
    let barriers = count_by is_met_at_barrier (met_by team i) in
    ap (λ (xs : List Member). list_any (counters.has_passed barriers) xs) keeps.counted
    ∙ any-map (counters.has_passed barriers) counted_member team.members
    ∙ any-alike (λ (mets : List Met). counters.has_passed barriers (counted_member mets)) (has_passed (length (met_by team i) - 1)) team.members (reaches-each team view i is_passed refl keeps.passed keeps at)

pub wait-answer : (team : Team) (view : TeamView) (i unfinished : ℕ) → Keeps team.members view → is_at_barrier (met_by team i) ≡ true → counters.may_pass view i unfinished ≡ may_pass team i unfinished
wait-answer team view i unfinished keeps at =
    let barriers : (member_at view i).barriers ≡ count_by is_met_at_barrier (met_by team i) = ap (λ (x : Member). x.barriers) (member-is team.members view i keeps.counted) in
    ap (λ (n : ℕ). list_all (counters.has_begun n) view.members && unfinished == 0 || list_any (counters.has_passed n) view.members) barriers
    ∙ ap₂ (λ (all any : Bool). all && unfinished == 0 || any) (all-begun team view i keeps at) (any-passed team view i keeps at)

-- ---- what is so where a wait begins, and where it ends
module _ (team : Team) (view : TeamView) (i : ℕ) (keeps : Keeps team.members view) (at : is_at_barrier (met_by team i) ≡ true) where
  abbrev mets : List Met
  mets = met_by team i

  abbrev n : ℕ
  n = length mets - 1

  abbrev old : Met
  old = met_at n mets

  inside : n < length mets
  inside = let some = barrier-some mets at in omega arith

  -- with a flag set too, it is set of all barriers
  set-all : (flag : Met → Bool) (new : Met) → IsInOrder flag (set mets n new) → flag new ≡ true → is_met_at_barrier new ≡ is_met_at_barrier old → count_by is_met_at_barrier mets ≡ count_by flag (set mets n new)
  set-all flag new order set_now same =
      let last : met_at (length (set mets n new) - 1) (set mets n new) ≡ new =
      ap (λ (k : ℕ). met_at (k - 1) (set mets n new)) (length-set mets n new) ∙ get_or-set_same mets n new not_met inside in
      sym (count-kept is_met_at_barrier mets n new not_met inside same)
      ∙ sym (order-all flag (set mets n new) order (ap flag last ∙ set_now ∙ sym at ∙ sym same ∙ sym (ap is_met_at_barrier last)))

  abbrev arrives : Met
  arrives = record old { arrived = true }

  arrive-order : IsInOrder is_arrived (set mets n arrives)
  arrive-order = order-last is_arrived mets arrives (keeps.arrived i) (λ _. at)

  arrive-counted : record (member_at view i) { begun = (member_at view i).barriers } ≡ counted_member (set mets n arrives)
  arrive-counted =
      let long = sym (length-set mets n arrives) in
      let barriers = sym (count-kept is_met_at_barrier mets n arrives not_met inside refl) in
      let begun = set-all is_arrived arrives arrive-order refl refl in
      let ended = sym (count-kept is_passed mets n arrives not_met inside refl) in
      ap (λ (x : Member). record x { begun = x.barriers }) (member-is team.members view i keeps.counted)
      ∙ (λ j. record { met = long j; barriers = barriers j; begun = begun j; passed = ended j })

  pub arrive-step : Keeps (with_arrived team i).members (counters.with_begun view i)
  arrive-step =
      keeps-flagged team.members view (counters.with_begun view i) i (set mets n arrives) keeps
      (record {
        long = length-set mets n arrives;
        whats = λ k. read-alike (λ (met : Met). met.what) mets n k arrives not_met refl;
        arrived = arrive-order;
        passed = order-last is_passed mets arrives (keeps.passed i) ((keeps.passed i).only n inside);
      })
      refl
      (ap₂ (λ (xs : List Member) (x : Member). set xs i x) keeps.counted arrive-counted ∙ sym (map-set counted_member team.members i (set mets n arrives)))
      (λ k. read-alike (λ (met : Met). met.taken) mets n k arrives not_met refl)

  abbrev passes : Met
  passes = record old { passed = true }

  pass-order : IsInOrder is_passed (set mets n passes)
  pass-order = order-last is_passed mets passes (keeps.passed i) (λ _. at)

  pass-counted : record (member_at view i) { passed = (member_at view i).barriers } ≡ counted_member (set mets n passes)
  pass-counted =
      let long = sym (length-set mets n passes) in
      let barriers = sym (count-kept is_met_at_barrier mets n passes not_met inside refl) in
      let begun = sym (count-kept is_arrived mets n passes not_met inside refl) in
      let ended = set-all is_passed passes pass-order refl refl in
      ap (λ (x : Member). record x { passed = x.barriers }) (member-is team.members view i keeps.counted)
      ∙ (λ j. record { met = long j; barriers = barriers j; begun = begun j; passed = ended j })

  pub pass-step : Keeps (with_passed team i).members (counters.with_passed view i)
  pass-step =
      keeps-flagged team.members view (counters.with_passed view i) i (set mets n passes) keeps
      (record {
        long = length-set mets n passes;
        whats = λ k. read-alike (λ (met : Met). met.what) mets n k passes not_met refl;
        arrived = order-last is_arrived mets passes (keeps.arrived i) ((keeps.arrived i).only n inside);
        passed = pass-order;
      })
      refl
      (ap₂ (λ (xs : List Member) (x : Member). set xs i x) keeps.counted pass-counted ∙ sym (map-set counted_member team.members i (set mets n passes)))
      (λ k. read-alike (λ (met : Met). met.taken) mets n k passes not_met refl)
