-- What the regions are seen as after one of them has changed.
use Rattle.std.proofs.Common.{◌≡◌, ℕ, ◌<◌, ◌≤◌, Bool, true, false, cond, List, [], ◌∷◌, ◌++◌, length, get_or, set, take, refl, sym, ap, ◌∙◌}
use Rattle.std.specs.Prelude.{Some}
use Rattle.std.proofs.lemmas.List.{get_or-map, map-set, map_push, set-get_or, take-replicate}
use Rattle.team_parts.specs.declared.meeting.TheConstants.{TEAM_LIMIT}
use Rattle.team_parts.specs.Team.{TeamView, new_member}
use Rattle.omp_model.specs.State.{Region as Seen, fresh_team, no_region}
use Rattle.omp_board.specs.declared.region.Region.{Region}
use Rattle.omp_board.specs.Regions.{IsFreshTeam, RegionsView, region_in, seen_team, team_in, with_team_in}
use Rattle.omp_board.specs.KeepingRegions.{seen_region, seen_regions}

-- the region that was read, as it is seen
seen-at : (regions : List Region) (r : ℕ) (old : Region) → r < length regions → old ≡ get_or regions r old → get_or (seen_regions regions) r no_region ≡ seen_region old
seen-at regions r old within read = get_or-map seen_region regions r old no_region within ∙ ap seen_region (sym read)

-- one region is changed
pub changed : (view : RegionsView) (regions : List Region) (r : ℕ) (old new : Region) (f : Seen → Seen) → seen_regions regions ≡ view.regions → r < length regions → old ≡ get_or regions r old → seen_region new ≡ f (seen_region old) → record view { regions = seen_regions (set regions r new) } ≡ record view { regions = set view.regions r (f (region_in view r)) }
changed view regions r old new f same within read made =
    ap (λ (all : List Seen). record view { regions = all }) (
    map-set seen_region regions r new
    ∙ ap (λ (region : Seen). set (seen_regions regions) r region) (made ∙ ap f (sym (seen-at regions r old within read)))
    ∙ ap (λ (all : List Seen). set all r (f (get_or all r no_region))) same
    )

-- one is seen as it was
pub unchanged : (regions : List Region) (r : ℕ) (old new : Region) → r < length regions → old ≡ get_or regions r old → seen_region new ≡ seen_region old → seen_regions (set regions r new) ≡ seen_regions regions
unchanged regions r old new within read made =
    map-set seen_region regions r new
    ∙ ap (λ (region : Seen). set (seen_regions regions) r region) (made ∙ sym (seen-at regions r old within read))
    ∙ set-get_or (seen_regions regions) r no_region

-- where a team stays as it was, so do the regions
pub only-if : (view : RegionsView) (r : ℕ) (b : Bool) (team : TeamView) → with_team_in view r (cond b team (team_in view r)) ≡ cond b (with_team_in view r team) view
only-if view r true team = refl
only-if view r false team = ap (λ (all : List Seen). record view { regions = all }) (set-get_or view.regions r no_region)

-- one more region is made
pub added : (view : RegionsView) (regions now : List Region) (new : Region) (region : Seen) → seen_regions regions ≡ view.regions → now ≡ regions ++ new ∷ [] → seen_region new ≡ region → record view { regions = seen_regions now } ≡ record view { regions = view.regions ++ region ∷ [] }
added view regions now new region same pushed made =
    ap (λ (all : List Seen). record view { regions = all }) (
    ap seen_regions pushed
    ∙ map_push seen_region regions new
    ∙ ap (λ (last : Seen). seen_regions regions ++ last ∷ []) made
    ∙ ap (λ (all : List Seen). all ++ region ∷ []) same
    )

-- the team of a region to come, with so many members
pub fitted : (team now : TeamView) (size : ℕ) → IsFreshTeam team → size ≤ TEAM_LIMIT → now ≡ record team { members = take size team.members } → seen_team (Some now) ≡ fresh_team size
fitted team now size fresh few is =
    ap (λ (fitted : TeamView). record fitted { room = 0 }) is
    ∙ rw (fresh.members, fresh.meetings, take-replicate size TEAM_LIMIT new_member few) refl
