-- The calls of a team's members are made in their order, and the team is what they leave.
use Rattle.std.proofs.Common.{ℕ, ◌≡◌, ◌≤◌, ◌++◌, true, List, [], ◌∷◌, length, sym, ap, ◌∙◌, subst}
use Rattle.team_parts.specs.declared.meeting.TheConstants.{TEAM_LIMIT}
use Rattle.team_parts.specs.declared.member.Member.{Member}
use Rattle.team_parts.specs.Team.{TeamView, member_at}
use Rattle.team_words.specs.Calls.{AreMade, TeamCall, after_call, after_calls, all_end_in_time, counters_after, counters_after_calls, ends_in_time, fresh_counters, may_make, may_make_all}
use Rattle.team_words.specs.Team.{Team, fresh_team, met_by}
use Rattle.team_words.proofs.Called.{keeps-made}
use Rattle.team_words.proofs.Keeping.{Keeps, member-is, size-is}
use Rattle.team_calls.specs.Agreed.{agrees, all_agree}
use Rattle.team_calls.proofs.Lists.{after-more, agree-more, call-size, counters-more, made-more, time-more}

pub record FollowsOf (size : ℕ) (view : TeamView) (calls : List TeamCall) : Type 0 where
  pub few : size ≤ TEAM_LIMIT
  pub made : may_make_all (fresh_team size) calls ≡ true
  pub time : all_end_in_time (fresh_team size) calls ≡ true
  pub agree : all_agree (fresh_team size) calls ≡ true
  pub view_is : counters_after_calls (fresh_counters size 0) calls ≡ view

-- of a team with as many members
abbrev pub Follows : TeamView → List TeamCall → Type 0
Follows view calls = FollowsOf (length view.members) view calls

-- the team in the standard's words
abbrev pub words_of : TeamView → List TeamCall → Team
words_of view calls = after_calls (fresh_team (length view.members)) calls

module _ (view : TeamView) (calls : List TeamCall) (follows : Follows view calls) where
  abbrev team : Team
  team = words_of view calls

  pub are-made : AreMade (length view.members) calls
  are-made = record { few = follows.few; in_order = follows.made }

  pub keeps : Keeps team.members view
  keeps = subst (Keeps team.members) follows.view_is (keeps-made (length view.members) 0 calls are-made)

  pub words-size : length team.members ≡ length view.members
  words-size = sym (size-is team.members view keeps.counted)

  pub words-met : (i : ℕ) → length (met_by team i) ≡ (member_at view i).met
  words-met i = sym (ap (λ (x : Member). x.met) (member-is team.members view i keeps.counted))

  -- one call more
  pub follows-more : (call : TeamCall) (next : TeamView) → may_make team call ≡ true → ends_in_time team call ≡ true →
      agrees team call ≡ true → next ≡ counters_after view call → Follows next (calls ++ call ∷ [])
  follows-more call next may ends agree is =
      let size = length view.members in
      let now : FollowsOf size next (calls ++ call ∷ []) = record {
        few = follows.few;
        made = made-more (fresh_team size) calls call follows.made may;
        time = time-more (fresh_team size) calls call follows.time ends;
        agree = agree-more (fresh_team size) calls call follows.agree agree;
        view_is = counters-more (fresh_counters size 0) calls call ∙ ap (λ (view : TeamView). counters_after view call) follows.view_is ∙ sym is;
      } in
      subst (λ (size : ℕ). FollowsOf size next (calls ++ call ∷ [])) (sym (ap (λ (view : TeamView). length view.members) is ∙ call-size view call)) now

  pub words-more : (call : TeamCall) (next : TeamView) → next ≡ counters_after view call → words_of next (calls ++ call ∷ []) ≡ after_call team call
  words-more call next is =
      ap (λ (size : ℕ). after_calls (fresh_team size) (calls ++ call ∷ [])) (ap (λ (view : TeamView). length view.members) is ∙ call-size view call)
      ∙ after-more (fresh_team (length view.members)) calls call
