-- No other number is left behind the last row; and a callback has the arguments that come one after the other.
use Rattle.std.proofs.Common.{refl, arith}
use Rattle.trace_format.proofs.Profile.{none_other}
use Rattle.trace_format.proofs.decode.call_in.Goals as goal

pub unreachable-requires : goal.unreachable-requires
unreachable-requires c = none_other c.args.number c.requires.profile ((λ e. omega arith), ((λ e. omega arith), ((λ e. omega arith), ((λ e. omega arith), ((λ e. omega arith), ((λ e. omega arith), ((λ e. omega arith), ((λ e. omega arith), ((λ e. omega arith), ((λ e. omega arith), ((λ e. omega arith), ((λ e. omega arith), ((λ e. omega arith), ((λ e. omega arith), ((λ e. omega arith), ((λ e. omega arith), ((λ e. omega arith), tt)))))))))))))))))

pub returns-in-1 : goal.returns-in-1
returns-in-1 c =
    rw (c.in-1.is, c.next_short.ensures.value, c.next_word.ensures.value)
    (rw (c.next_short.ensures.place) (record { number = refl; arguments = refl }))

pub returns-in-2 : goal.returns-in-2
returns-in-2 c =
    rw (c.in-2.is, c.next_word-in-2.ensures.value)
    (record { number = refl; arguments = refl })

pub returns-in-3 : goal.returns-in-3
returns-in-3 c =
    rw (c.in-3.is, c.next_word-in-3.ensures.value, c.next_frame.ensures.value, c.next_word-in-3-2.ensures.value, c.next_short-in-3.ensures.value, c.next_short-in-3-2.ensures.value, c.next_long.ensures.value)
    (rw (c.next_short-in-3-2.ensures.place, c.next_short-in-3.ensures.place, c.next_word-in-3-2.ensures.place, c.next_frame.ensures.place, c.next_word-in-3.ensures.place) (record { number = refl; arguments = refl }))

pub returns-in-4 : goal.returns-in-4
returns-in-4 c =
    rw (c.in-4.is, c.next_word-in-4.ensures.value, c.next_word-in-4-2.ensures.value, c.next_short-in-4.ensures.value, c.next_long-in-4.ensures.value)
    (rw (c.next_short-in-4.ensures.place, c.next_word-in-4-2.ensures.place, c.next_word-in-4.ensures.place) (record { number = refl; arguments = refl }))

pub returns-in-5 : goal.returns-in-5
returns-in-5 c =
    rw (c.in-5.is, c.next_word-in-5.ensures.value, c.next_frame-in-5.ensures.value, c.next_word-in-5-2.ensures.value, c.next_short-in-5.ensures.value, c.next_short-in-5-2.ensures.value, c.next_long-in-5.ensures.value)
    (rw (c.next_short-in-5-2.ensures.place, c.next_short-in-5.ensures.place, c.next_word-in-5-2.ensures.place, c.next_frame-in-5.ensures.place, c.next_word-in-5.ensures.place) (record { number = refl; arguments = refl }))

pub returns-in-6 : goal.returns-in-6
returns-in-6 c =
    rw (c.in-6.is, c.next_word-in-6.ensures.value, c.next_short-in-6.ensures.value, c.next_word-in-6-2.ensures.value)
    (rw (c.next_short-in-6.ensures.place, c.next_word-in-6.ensures.place) (record { number = refl; arguments = refl }))

pub returns-in-7 : goal.returns-in-7
returns-in-7 c =
    rw (c.in-7.is, c.next_short-in-7.ensures.value, c.next_word-in-7.ensures.value, c.next_word-in-7-2.ensures.value, c.next_short-in-7-2.ensures.value, c.next_short-in-7-3.ensures.value, c.next_short-in-7-4.ensures.value)
    (rw (c.next_short-in-7-3.ensures.place, c.next_short-in-7-2.ensures.place, c.next_word-in-7-2.ensures.place, c.next_word-in-7.ensures.place, c.next_short-in-7.ensures.place) (record { number = refl; arguments = refl }))

pub returns-in-16 : goal.returns-in-16
returns-in-16 c =
    rw (c.in-16.is, c.next_short-in-16.ensures.value, c.next_short-in-16-2.ensures.value, c.next_word-in-16.ensures.value, c.next_word-in-16-2.ensures.value, c.next_long-in-16.ensures.value)
    (rw (c.next_word-in-16-2.ensures.place, c.next_word-in-16.ensures.place, c.next_short-in-16-2.ensures.place, c.next_short-in-16.ensures.place) (record { number = refl; arguments = refl }))

pub returns-in-17 : goal.returns-in-17
returns-in-17 c =
    rw (c.in-17.is, c.next_short-in-17.ensures.value, c.next_short-in-17-2.ensures.value, c.next_long-in-17.ensures.value)
    (rw (c.next_short-in-17-2.ensures.place, c.next_short-in-17.ensures.place) (record { number = refl; arguments = refl }))

pub returns-in-20 : goal.returns-in-20
returns-in-20 c =
    rw (c.in-20.is, c.next_short-in-20.ensures.value, c.next_short-in-20-2.ensures.value, c.next_word-in-20.ensures.value, c.next_word-in-20-2.ensures.value, c.next_long-in-20.ensures.value, c.next_long-in-20-2.ensures.value)
    (rw (c.next_long-in-20.ensures.place, c.next_word-in-20-2.ensures.place, c.next_word-in-20.ensures.place, c.next_short-in-20-2.ensures.place, c.next_short-in-20.ensures.place) (record { number = refl; arguments = refl }))

pub returns-in-21 : goal.returns-in-21
returns-in-21 c =
    rw (c.in-21.is, c.next_short-in-21.ensures.value, c.next_word-in-21.ensures.value, c.next_word-in-21-2.ensures.value, c.next_long-in-21.ensures.value)
    (rw (c.next_word-in-21-2.ensures.place, c.next_word-in-21.ensures.place, c.next_short-in-21.ensures.place) (record { number = refl; arguments = refl }))

pub returns-in-23 : goal.returns-in-23
returns-in-23 c =
    rw (c.in-23.is, c.next_short-in-23.ensures.value, c.next_short-in-23-2.ensures.value, c.next_word-in-23.ensures.value, c.next_word-in-23-2.ensures.value, c.next_long-in-23.ensures.value)
    (rw (c.next_word-in-23-2.ensures.place, c.next_word-in-23.ensures.place, c.next_short-in-23-2.ensures.place, c.next_short-in-23.ensures.place) (record { number = refl; arguments = refl }))

pub returns-in-24 : goal.returns-in-24
returns-in-24 c =
    rw (c.in-24.is, c.next_short-in-24.ensures.value, c.next_short-in-24-2.ensures.value, c.next_short-in-24-3.ensures.value, c.next_short-in-24-4.ensures.value, c.next_long-in-24.ensures.value)
    (rw (c.next_short-in-24-4.ensures.place, c.next_short-in-24-3.ensures.place, c.next_short-in-24-2.ensures.place, c.next_short-in-24.ensures.place) (record { number = refl; arguments = refl }))

pub returns-in-25 : goal.returns-in-25
returns-in-25 c =
    rw (c.in-25.is, c.next_short-in-25.ensures.value, c.next_short-in-25-2.ensures.value, c.next_long-in-25.ensures.value)
    (rw (c.next_short-in-25-2.ensures.place, c.next_short-in-25.ensures.place) (record { number = refl; arguments = refl }))

pub returns-in-26 : goal.returns-in-26
returns-in-26 c =
    rw (c.in-26.is, c.next_short-in-26.ensures.value, c.next_short-in-26-2.ensures.value, c.next_short-in-26-3.ensures.value, c.next_short-in-26-4.ensures.value, c.next_long-in-26.ensures.value)
    (rw (c.next_short-in-26-4.ensures.place, c.next_short-in-26-3.ensures.place, c.next_short-in-26-2.ensures.place, c.next_short-in-26.ensures.place) (record { number = refl; arguments = refl }))

pub returns-in-27 : goal.returns-in-27
returns-in-27 c =
    rw (c.in-27.is, c.next_short-in-27.ensures.value, c.next_short-in-27-2.ensures.value, c.next_long-in-27.ensures.value)
    (rw (c.next_short-in-27-2.ensures.place, c.next_short-in-27.ensures.place) (record { number = refl; arguments = refl }))

pub returns-in-32 : goal.returns-in-32
returns-in-32 c =
    rw (c.in-32.is, c.next_word-in-32.ensures.value, c.next_word-in-32-2.ensures.value, c.next_short-in-32.ensures.value, c.next_long-in-32.ensures.value, c.next_long-in-32-2.ensures.value)
    (rw (c.next_long-in-32.ensures.place, c.next_short-in-32.ensures.place, c.next_word-in-32-2.ensures.place, c.next_word-in-32.ensures.place) (record { number = refl; arguments = refl }))
