-- The details of statuses, by a test and by the definition.
use Rattle.std.proofs.Common.{ℕ, ◌≡◌, ◌<◌, true, List, [], ◌∷◌, refl, arith}
use Rattle.std.specs.Prelude.{nat_le}
use Rattle.std.proofs.lemmas.Bool.{and_from, and_parts, eqb-true, le-leb, leb-true}
use Rattle.trace_format.specs.Accepting.{accepts_detail}
use Rattle.trace_format.specs.Validity.{IsAmong, IsDetail, IsShort}
use Rattle.trace_format.proofs.Profile.{each_among}
use Rattle.trace_format.proofs.Values.{among_below, same_test}

abbrev pub statuses_of_ends : List ℕ
statuses_of_ends = 0 ∷ 1 ∷ 4 ∷ 5 ∷ 6 ∷ []

pub status_small : (status detail : ℕ) → IsDetail status detail → status < 256
status_small status detail is = among_below statuses_of_ends status 256 refl is.status_is

pub detail_accepted : (status detail : ℕ) → IsDetail status detail → accepts_detail status detail ≡ true
detail_accepted status detail is =
    each_among (λ s. IsDetail s detail → accepts_detail s detail ≡ true) statuses_of_ends (
      λ of_0. same_test detail 0 (of_0.none refl),
      (
        λ of_1. le-leb 1 detail (of_1.some refl),
        (
          λ of_4. and_from (nat_le 1 detail) (nat_le detail 10) (le-leb 1 detail (of_4.some refl)) (le-leb detail 10 (of_4.trap refl)),
          (
            λ of_5. same_test detail 0 (of_5.none refl),
            (λ of_6. and_from (nat_le 1 detail) (nat_le detail 7) (le-leb 1 detail (of_6.some refl)) (le-leb detail 7 (of_6.limit refl)), tt),
          ),
        ),
      ),
    )
    status is.status_is is

pub detail_is : (status detail : ℕ) → IsAmong statuses_of_ends status → IsShort detail → accepts_detail status detail ≡ true → IsDetail status detail
detail_is status detail among small test =
    each_among (λ s. accepts_detail s detail ≡ true → IsDetail s detail) statuses_of_ends (
      λ of_0. record { status_is = refl; short = small; none = λ any. eqb-true detail 0 of_0; some = λ other. absurd cc; trap = λ other. absurd (omega arith); limit = λ other. absurd (omega arith) },
      (
        λ of_1. record { status_is = refl; short = small; none = λ other. absurd cc; some = λ any. leb-true 1 detail of_1; trap = λ other. absurd (omega arith); limit = λ other. absurd (omega arith) },
        (
          λ of_4. record {
            status_is = refl;
            short = small;
            none = λ other. absurd cc;
            some = λ any. leb-true 1 detail (and_parts (nat_le 1 detail) (nat_le detail 10) of_4).0;
            trap = λ any. leb-true detail 10 (and_parts (nat_le 1 detail) (nat_le detail 10) of_4).1;
            limit = λ other. absurd (omega arith);
          },
          (
            λ of_5. record { status_is = refl; short = small; none = λ any. eqb-true detail 0 of_5; some = λ other. absurd cc; trap = λ other. absurd (omega arith); limit = λ other. absurd (omega arith) },
            (
              λ of_6. record {
                status_is = refl;
                short = small;
                none = λ other. absurd cc;
                some = λ any. leb-true 1 detail (and_parts (nat_le 1 detail) (nat_le detail 7) of_6).0;
                trap = λ other. absurd (omega arith);
                limit = λ any. leb-true detail 7 (and_parts (nat_le 1 detail) (nat_le detail 7) of_6).1;
              },
              tt,
            ),
          ),
        ),
      ),
    )
    status among test
