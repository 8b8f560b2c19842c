-- The kinds of words. A word has the number of its kind in its top four bits.
use Rattle.std.specs.Prelude.{ℕ, cond, ◌==◌}
use Rattle.words.specs.declared.kinds.Kind.{Kind}
use Rattle.words.specs.declared.kinds.Kind.TheVariants.{End, Put, Get, Trig, Freeze, If, Has, Start, Let, Loop, UnusedTen, UnusedEleven, UnusedTwelve, UnusedThirteen, Task, Head}

abbrev pub kind_number : Kind → ℕ
kind_number End = 0
kind_number Put = 1
kind_number Get = 2
kind_number Trig = 3
kind_number Freeze = 4
kind_number If = 5
kind_number Has = 6
kind_number Start = 7
kind_number Let = 8
kind_number Loop = 9
kind_number UnusedTen = 10
kind_number UnusedEleven = 11
kind_number UnusedTwelve = 12
kind_number UnusedThirteen = 13
kind_number Task = 14
kind_number Head = 15

-- the kind that has a number of four bits
abbrev pub kind_in : ℕ → Kind
kind_in n =
    cond (n == 0) End
    (cond (n == 1) Put
    (cond (n == 2) Get
    (cond (n == 3) Trig
    (cond (n == 4) Freeze
    (cond (n == 5) If
    (cond (n == 6) Has
    (cond (n == 7) Start
    (cond (n == 8) Let
    (cond (n == 9) Loop
    (cond (n == 10) UnusedTen
    (cond (n == 11) UnusedEleven
    (cond (n == 12) UnusedTwelve
    (cond (n == 13) UnusedThirteen
    (cond (n == 14) Task Head))))))))))))))
