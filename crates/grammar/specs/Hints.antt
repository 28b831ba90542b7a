-- Hints for the table, printed by hints/hints.py. Nothing trusts them: proofs/Checks.antt tests each.
use Rattle.std.specs.Prelude.{List, [], ◌∷◌, Bool, true, false}
use Rattle.grammar.specs.Grammar.{Hint, one, pair}
use Rattle.grammar.specs.Choice.{ones}

unfoldable pub hints : List Hint
hints =
    record { kind = 0; firsts = ones (0 ∷ 61 ∷ 65 ∷ 66 ∷ 68 ∷ 70 ∷ 80 ∷ []); follows = ones (0 ∷ []); full = false; shortest = 0; more = 0; less = 0; rank = 7 } ∷
    record { kind = 1; firsts = ones (0 ∷ 61 ∷ 65 ∷ 66 ∷ 68 ∷ 70 ∷ 80 ∷ []); follows = ones (0 ∷ []); full = false; shortest = 0; more = 0; less = 0; rank = 5 } ∷
    record { kind = 2; firsts = ones (61 ∷ 65 ∷ 66 ∷ 68 ∷ 70 ∷ 80 ∷ []); follows = ones (0 ∷ 61 ∷ 65 ∷ 66 ∷ 68 ∷ 70 ∷ 80 ∷ []); full = true; shortest = 3; more = 0; less = 3; rank = 3 } ∷
    record { kind = 3; firsts = ones (42 ∷ []); follows = ones (27 ∷ 40 ∷ []); full = true; shortest = 0; more = 0; less = 5; rank = 1 } ∷
    record { kind = 4; firsts = ones (27 ∷ 40 ∷ []); follows = ones (40 ∷ []); full = false; shortest = 0; more = 0; less = 0; rank = 1 } ∷
    record { kind = 5; firsts = pair 13 ∷ pair 14 ∷ ones (13 ∷ 14 ∷ 41 ∷ 43 ∷ []); follows = ones (41 ∷ 43 ∷ []); full = false; shortest = 0; more = 1; less = 0; rank = 5 } ∷
    record { kind = 6; firsts = ones (41 ∷ 43 ∷ 48 ∷ []); follows = ones (41 ∷ 43 ∷ []); full = false; shortest = 0; more = 0; less = 0; rank = 1 } ∷
    record { kind = 7; firsts = pair 13 ∷ pair 14 ∷ ones (13 ∷ 14 ∷ []); follows = ones (41 ∷ 43 ∷ 48 ∷ []); full = true; shortest = 0; more = 1; less = 0; rank = 3 } ∷
    record { kind = 8; firsts = pair 13 ∷ pair 14 ∷ ones (13 ∷ 14 ∷ []); follows = ones (0 ∷ 20 ∷ 21 ∷ 22 ∷ 23 ∷ 24 ∷ 25 ∷ 26 ∷ 28 ∷ 29 ∷ 30 ∷ 31 ∷ 32 ∷ 40 ∷ 41 ∷ 42 ∷ 43 ∷ 46 ∷ 47 ∷ 48 ∷ 49 ∷ 50 ∷ 51 ∷ 53 ∷ 54 ∷ 55 ∷ 56 ∷ 57 ∷ 58 ∷ 59 ∷ 71 ∷ []); full = true; shortest = 0; more = 0; less = 1; rank = 1 } ∷
    record { kind = 9; firsts = ones (70 ∷ []); follows = ones (0 ∷ 1 ∷ 2 ∷ 5 ∷ 6 ∷ 7 ∷ 8 ∷ 9 ∷ 10 ∷ 12 ∷ 13 ∷ 14 ∷ 40 ∷ 41 ∷ 42 ∷ 52 ∷ 53 ∷ 60 ∷ 61 ∷ 62 ∷ 65 ∷ 66 ∷ 67 ∷ 68 ∷ 69 ∷ 70 ∷ 72 ∷ 73 ∷ 74 ∷ 76 ∷ 77 ∷ 78 ∷ 79 ∷ 80 ∷ 81 ∷ 90 ∷ []); full = true; shortest = 0; more = 0; less = 3; rank = 1 } ∷
    record { kind = 10; firsts = ones (13 ∷ 14 ∷ 62 ∷ 74 ∷ 78 ∷ 79 ∷ []); follows = ones (47 ∷ []); full = true; shortest = 0; more = 3; less = 0; rank = 5 } ∷
    record { kind = 11; firsts = ones (13 ∷ 14 ∷ 62 ∷ 74 ∷ 78 ∷ 79 ∷ []); follows = ones (41 ∷ 47 ∷ 48 ∷ []); full = true; shortest = 0; more = 1; less = 0; rank = 3 } ∷
    record { kind = 12; firsts = ones (41 ∷ 47 ∷ 48 ∷ 49 ∷ []); follows = ones (41 ∷ 47 ∷ 48 ∷ []); full = false; shortest = 0; more = 0; less = 0; rank = 1 } ∷
    record { kind = 13; firsts = ones (13 ∷ 14 ∷ 40 ∷ 62 ∷ 74 ∷ 78 ∷ 79 ∷ []); follows = ones (41 ∷ 47 ∷ 48 ∷ []); full = true; shortest = 0; more = 0; less = 1; rank = 3 } ∷
    record { kind = 14; firsts = ones (13 ∷ 14 ∷ 62 ∷ 74 ∷ 78 ∷ 79 ∷ []); follows = ones (41 ∷ []); full = true; shortest = 0; more = 1; less = 0; rank = 5 } ∷
    record { kind = 15; firsts = ones (41 ∷ 48 ∷ []); follows = ones (41 ∷ []); full = false; shortest = 0; more = 0; less = 0; rank = 1 } ∷
    record { kind = 16; firsts = ones (13 ∷ 14 ∷ 62 ∷ 74 ∷ 78 ∷ 79 ∷ []); follows = ones (0 ∷ 20 ∷ 21 ∷ 22 ∷ 23 ∷ 24 ∷ 25 ∷ 26 ∷ 28 ∷ 29 ∷ 30 ∷ 31 ∷ 32 ∷ 40 ∷ 41 ∷ 42 ∷ 43 ∷ 44 ∷ 45 ∷ 47 ∷ 48 ∷ 49 ∷ 50 ∷ 51 ∷ 53 ∷ 54 ∷ 55 ∷ 56 ∷ 57 ∷ 58 ∷ 59 ∷ []); full = true; shortest = 0; more = 0; less = 1; rank = 1 } ∷
    record { kind = 17; firsts = ones (13 ∷ 14 ∷ 62 ∷ 74 ∷ 78 ∷ 79 ∷ []); follows = ones (0 ∷ 20 ∷ 21 ∷ 22 ∷ 23 ∷ 24 ∷ 25 ∷ 26 ∷ 28 ∷ 29 ∷ 30 ∷ 31 ∷ 32 ∷ 40 ∷ 41 ∷ 42 ∷ 43 ∷ 44 ∷ 45 ∷ 47 ∷ 48 ∷ 50 ∷ 51 ∷ 53 ∷ 54 ∷ 55 ∷ 56 ∷ 57 ∷ 58 ∷ 59 ∷ []); full = true; shortest = 0; more = 1; less = 0; rank = 3 } ∷
    record { kind = 18; firsts = ones (0 ∷ 20 ∷ 21 ∷ 22 ∷ 23 ∷ 24 ∷ 25 ∷ 26 ∷ 28 ∷ 29 ∷ 30 ∷ 31 ∷ 32 ∷ 40 ∷ 41 ∷ 42 ∷ 43 ∷ 44 ∷ 45 ∷ 47 ∷ 48 ∷ 49 ∷ 50 ∷ 51 ∷ 53 ∷ 54 ∷ 55 ∷ 56 ∷ 57 ∷ 58 ∷ 59 ∷ []); follows = ones (0 ∷ 20 ∷ 21 ∷ 22 ∷ 23 ∷ 24 ∷ 25 ∷ 26 ∷ 28 ∷ 29 ∷ 30 ∷ 31 ∷ 32 ∷ 40 ∷ 41 ∷ 42 ∷ 43 ∷ 44 ∷ 45 ∷ 47 ∷ 48 ∷ 50 ∷ 51 ∷ 53 ∷ 54 ∷ 55 ∷ 56 ∷ 57 ∷ 58 ∷ 59 ∷ []); full = false; shortest = 0; more = 0; less = 0; rank = 1 } ∷
    record { kind = 19; firsts = ones (13 ∷ 14 ∷ 40 ∷ 42 ∷ 52 ∷ 62 ∷ 74 ∷ 78 ∷ 79 ∷ []); follows = ones (40 ∷ 41 ∷ 43 ∷ 45 ∷ 48 ∷ 50 ∷ []); full = true; shortest = 0; more = 3; less = 0; rank = 7 } ∷
    record { kind = 20; firsts = ones (40 ∷ 41 ∷ 43 ∷ 45 ∷ 48 ∷ 50 ∷ 51 ∷ []); follows = ones (40 ∷ 41 ∷ 43 ∷ 45 ∷ 48 ∷ 50 ∷ []); full = false; shortest = 0; more = 0; less = 0; rank = 1 } ∷
    record { kind = 21; firsts = ones (13 ∷ 14 ∷ 40 ∷ 42 ∷ 52 ∷ 62 ∷ 74 ∷ 78 ∷ 79 ∷ []); follows = ones (40 ∷ 41 ∷ 43 ∷ 45 ∷ 48 ∷ 50 ∷ 51 ∷ []); full = true; shortest = 0; more = 3; less = 0; rank = 5 } ∷
    record { kind = 22; firsts = ones (40 ∷ 41 ∷ 43 ∷ 44 ∷ 45 ∷ 48 ∷ 50 ∷ 51 ∷ []); follows = ones (40 ∷ 41 ∷ 43 ∷ 45 ∷ 48 ∷ 50 ∷ 51 ∷ []); full = false; shortest = 0; more = 2; less = 0; rank = 2 } ∷
    record { kind = 23; firsts = ones (13 ∷ 14 ∷ 40 ∷ 42 ∷ 45 ∷ 52 ∷ 62 ∷ 74 ∷ 78 ∷ 79 ∷ []); follows = ones (45 ∷ []); full = false; shortest = 0; more = 3; less = 0; rank = 9 } ∷
    record { kind = 24; firsts = ones (45 ∷ 48 ∷ []); follows = ones (45 ∷ []); full = false; shortest = 0; more = 0; less = 0; rank = 1 } ∷
    record { kind = 25; firsts = ones (40 ∷ []); follows = ones (0 ∷ 1 ∷ 2 ∷ 5 ∷ 6 ∷ 7 ∷ 8 ∷ 9 ∷ 10 ∷ 12 ∷ 13 ∷ 14 ∷ 20 ∷ 21 ∷ 22 ∷ 23 ∷ 24 ∷ 25 ∷ 26 ∷ 28 ∷ 29 ∷ 30 ∷ 31 ∷ 32 ∷ 40 ∷ 41 ∷ 42 ∷ 43 ∷ 47 ∷ 48 ∷ 49 ∷ 50 ∷ 51 ∷ 52 ∷ 53 ∷ 54 ∷ 55 ∷ 56 ∷ 57 ∷ 58 ∷ 59 ∷ 60 ∷ 61 ∷ 62 ∷ 63 ∷ 65 ∷ 66 ∷ 67 ∷ 68 ∷ 69 ∷ 70 ∷ 72 ∷ 73 ∷ 74 ∷ 76 ∷ 77 ∷ 78 ∷ 79 ∷ 80 ∷ 81 ∷ 90 ∷ []); full = true; shortest = 0; more = 0; less = 3; rank = 1 } ∷
    record { kind = 26; firsts = ones (1 ∷ 2 ∷ 5 ∷ 6 ∷ 7 ∷ 8 ∷ 9 ∷ 10 ∷ 12 ∷ 13 ∷ 14 ∷ 40 ∷ 41 ∷ 42 ∷ 52 ∷ 53 ∷ 60 ∷ 62 ∷ 67 ∷ 69 ∷ 70 ∷ 72 ∷ 73 ∷ 74 ∷ 76 ∷ 77 ∷ 78 ∷ 79 ∷ 81 ∷ 90 ∷ []); follows = ones (41 ∷ []); full = false; shortest = 0; more = 1; less = 0; rank = 22 } ∷
    record { kind = 27; firsts = ones (1 ∷ 2 ∷ 5 ∷ 6 ∷ 7 ∷ 8 ∷ 9 ∷ 10 ∷ 12 ∷ 13 ∷ 14 ∷ 40 ∷ 42 ∷ 52 ∷ 53 ∷ 60 ∷ 62 ∷ 67 ∷ 69 ∷ 70 ∷ 72 ∷ 73 ∷ 74 ∷ 76 ∷ 77 ∷ 78 ∷ 79 ∷ 81 ∷ 90 ∷ []); follows = ones (41 ∷ []); full = true; shortest = 0; more = 1; less = 0; rank = 20 } ∷
    record { kind = 28; firsts = ones (1 ∷ 2 ∷ 5 ∷ 6 ∷ 7 ∷ 8 ∷ 9 ∷ 10 ∷ 12 ∷ 13 ∷ 14 ∷ 40 ∷ 41 ∷ 42 ∷ 47 ∷ 52 ∷ 53 ∷ 60 ∷ 62 ∷ 67 ∷ 69 ∷ 70 ∷ 72 ∷ 73 ∷ 74 ∷ 76 ∷ 77 ∷ 78 ∷ 79 ∷ 81 ∷ 90 ∷ []); follows = ones (41 ∷ []); full = false; shortest = 0; more = 1; less = 0; rank = 22 } ∷
    record { kind = 29; firsts = ones (41 ∷ 47 ∷ []); follows = ones (41 ∷ []); full = false; shortest = 0; more = 0; less = 0; rank = 2 } ∷
    record { kind = 30; firsts = ones (72 ∷ []); follows = ones (1 ∷ 2 ∷ 5 ∷ 6 ∷ 7 ∷ 8 ∷ 9 ∷ 10 ∷ 12 ∷ 13 ∷ 14 ∷ 40 ∷ 41 ∷ 42 ∷ 52 ∷ 53 ∷ 60 ∷ 62 ∷ 67 ∷ 69 ∷ 70 ∷ 72 ∷ 73 ∷ 74 ∷ 76 ∷ 77 ∷ 78 ∷ 79 ∷ 81 ∷ 90 ∷ []); full = true; shortest = 0; more = 0; less = 7; rank = 1 } ∷
    record { kind = 31; firsts = ones (46 ∷ 50 ∷ []); follows = ones (50 ∷ []); full = false; shortest = 0; more = 0; less = 0; rank = 1 } ∷
    record { kind = 32; firsts = ones (1 ∷ 2 ∷ 5 ∷ 6 ∷ 7 ∷ 8 ∷ 9 ∷ 10 ∷ 12 ∷ []); follows = ones (0 ∷ 20 ∷ 21 ∷ 22 ∷ 23 ∷ 24 ∷ 25 ∷ 26 ∷ 28 ∷ 29 ∷ 30 ∷ 31 ∷ 32 ∷ 40 ∷ 41 ∷ 42 ∷ 43 ∷ 47 ∷ 48 ∷ 49 ∷ 50 ∷ 51 ∷ 53 ∷ 54 ∷ 55 ∷ 56 ∷ 57 ∷ 58 ∷ 59 ∷ []); full = true; shortest = 0; more = 0; less = 1; rank = 1 } ∷
    record { kind = 33; firsts = ones (42 ∷ []); follows = ones (0 ∷ 20 ∷ 21 ∷ 22 ∷ 23 ∷ 24 ∷ 25 ∷ 26 ∷ 28 ∷ 29 ∷ 30 ∷ 31 ∷ 32 ∷ 40 ∷ 41 ∷ 42 ∷ 43 ∷ 47 ∷ 48 ∷ 49 ∷ 50 ∷ 51 ∷ 53 ∷ 54 ∷ 55 ∷ 56 ∷ 57 ∷ 58 ∷ 59 ∷ []); full = true; shortest = 0; more = 0; less = 5; rank = 1 } ∷
    record { kind = 34; firsts = ones (40 ∷ []); follows = ones (0 ∷ 20 ∷ 21 ∷ 22 ∷ 23 ∷ 24 ∷ 25 ∷ 26 ∷ 28 ∷ 29 ∷ 30 ∷ 31 ∷ 32 ∷ 41 ∷ 42 ∷ 43 ∷ 47 ∷ 48 ∷ 49 ∷ 50 ∷ 51 ∷ 53 ∷ 54 ∷ 55 ∷ 56 ∷ 57 ∷ 58 ∷ 59 ∷ []); full = true; shortest = 0; more = 0; less = 3; rank = 1 } ∷
    record { kind = 35; firsts = pair 13 ∷ pair 14 ∷ ones (1 ∷ 2 ∷ 5 ∷ 6 ∷ 7 ∷ 8 ∷ 9 ∷ 10 ∷ 12 ∷ 13 ∷ 14 ∷ 40 ∷ 41 ∷ 42 ∷ 52 ∷ 53 ∷ 60 ∷ 62 ∷ 67 ∷ 69 ∷ 70 ∷ 72 ∷ 73 ∷ 74 ∷ 76 ∷ 77 ∷ 78 ∷ 79 ∷ 81 ∷ 90 ∷ []); follows = ones (0 ∷ 20 ∷ 21 ∷ 22 ∷ 23 ∷ 24 ∷ 25 ∷ 26 ∷ 28 ∷ 29 ∷ 30 ∷ 31 ∷ 32 ∷ 41 ∷ 42 ∷ 43 ∷ 47 ∷ 48 ∷ 49 ∷ 50 ∷ 51 ∷ 53 ∷ 54 ∷ 55 ∷ 56 ∷ 57 ∷ 58 ∷ 59 ∷ []); full = true; shortest = 1; more = 0; less = 0; rank = 24 } ∷
    record { kind = 36; firsts = pair 13 ∷ pair 14 ∷ ones (41 ∷ []); follows = ones (41 ∷ []); full = false; shortest = 0; more = 0; less = 0; rank = 5 } ∷
    record { kind = 37; firsts = ones (41 ∷ 48 ∷ []); follows = ones (41 ∷ []); full = false; shortest = 0; more = 0; less = 0; rank = 1 } ∷
    record { kind = 38; firsts = pair 13 ∷ pair 14 ∷ ones ([]); follows = ones (41 ∷ 48 ∷ []); full = true; shortest = 0; more = 0; less = 1; rank = 3 } ∷
    record { kind = 39; firsts = pair 13 ∷ pair 14 ∷ ones ([]); follows = ones (46 ∷ []); full = true; shortest = 0; more = 0; less = 1; rank = 1 } ∷
    record { kind = 40; firsts = ones (1 ∷ 2 ∷ 5 ∷ 6 ∷ 7 ∷ 8 ∷ 9 ∷ 10 ∷ 12 ∷ 13 ∷ 14 ∷ 40 ∷ 42 ∷ 43 ∷ 52 ∷ 53 ∷ 60 ∷ 62 ∷ 67 ∷ 69 ∷ 73 ∷ 74 ∷ 76 ∷ 77 ∷ 78 ∷ 79 ∷ 81 ∷ 90 ∷ []); follows = ones (43 ∷ []); full = false; shortest = 0; more = 1; less = 0; rank = 19 } ∷
    record { kind = 41; firsts = ones (43 ∷ 48 ∷ []); follows = ones (43 ∷ []); full = false; shortest = 0; more = 0; less = 0; rank = 1 } ∷
    record { kind = 42; firsts = ones (67 ∷ 69 ∷ 73 ∷ 81 ∷ []); follows = ones (0 ∷ 1 ∷ 2 ∷ 5 ∷ 6 ∷ 7 ∷ 8 ∷ 9 ∷ 10 ∷ 12 ∷ 13 ∷ 14 ∷ 20 ∷ 21 ∷ 22 ∷ 23 ∷ 24 ∷ 25 ∷ 26 ∷ 28 ∷ 29 ∷ 30 ∷ 31 ∷ 32 ∷ 40 ∷ 41 ∷ 42 ∷ 43 ∷ 47 ∷ 48 ∷ 49 ∷ 50 ∷ 51 ∷ 52 ∷ 53 ∷ 54 ∷ 55 ∷ 56 ∷ 57 ∷ 58 ∷ 59 ∷ 60 ∷ 62 ∷ 67 ∷ 69 ∷ 70 ∷ 72 ∷ 73 ∷ 74 ∷ 76 ∷ 77 ∷ 78 ∷ 79 ∷ 81 ∷ 90 ∷ []); full = true; shortest = 3; more = 0; less = 3; rank = 1 } ∷
    record { kind = 43; firsts = ones (0 ∷ 1 ∷ 2 ∷ 5 ∷ 6 ∷ 7 ∷ 8 ∷ 9 ∷ 10 ∷ 12 ∷ 13 ∷ 14 ∷ 20 ∷ 21 ∷ 22 ∷ 23 ∷ 24 ∷ 25 ∷ 26 ∷ 28 ∷ 29 ∷ 30 ∷ 31 ∷ 32 ∷ 40 ∷ 41 ∷ 42 ∷ 43 ∷ 47 ∷ 48 ∷ 49 ∷ 50 ∷ 51 ∷ 52 ∷ 53 ∷ 54 ∷ 55 ∷ 56 ∷ 57 ∷ 58 ∷ 59 ∷ 60 ∷ 62 ∷ 63 ∷ 67 ∷ 69 ∷ 70 ∷ 72 ∷ 73 ∷ 74 ∷ 76 ∷ 77 ∷ 78 ∷ 79 ∷ 81 ∷ 90 ∷ []); follows = ones (0 ∷ 1 ∷ 2 ∷ 5 ∷ 6 ∷ 7 ∷ 8 ∷ 9 ∷ 10 ∷ 12 ∷ 13 ∷ 14 ∷ 20 ∷ 21 ∷ 22 ∷ 23 ∷ 24 ∷ 25 ∷ 26 ∷ 28 ∷ 29 ∷ 30 ∷ 31 ∷ 32 ∷ 40 ∷ 41 ∷ 42 ∷ 43 ∷ 47 ∷ 48 ∷ 49 ∷ 50 ∷ 51 ∷ 52 ∷ 53 ∷ 54 ∷ 55 ∷ 56 ∷ 57 ∷ 58 ∷ 59 ∷ 60 ∷ 62 ∷ 67 ∷ 69 ∷ 70 ∷ 72 ∷ 73 ∷ 74 ∷ 76 ∷ 77 ∷ 78 ∷ 79 ∷ 81 ∷ 90 ∷ []); full = false; shortest = 0; more = 0; less = 0; rank = 1 } ∷
    record { kind = 44; firsts = ones (40 ∷ 69 ∷ []); follows = ones (0 ∷ 1 ∷ 2 ∷ 5 ∷ 6 ∷ 7 ∷ 8 ∷ 9 ∷ 10 ∷ 12 ∷ 13 ∷ 14 ∷ 20 ∷ 21 ∷ 22 ∷ 23 ∷ 24 ∷ 25 ∷ 26 ∷ 28 ∷ 29 ∷ 30 ∷ 31 ∷ 32 ∷ 40 ∷ 41 ∷ 42 ∷ 43 ∷ 47 ∷ 48 ∷ 49 ∷ 50 ∷ 51 ∷ 52 ∷ 53 ∷ 54 ∷ 55 ∷ 56 ∷ 57 ∷ 58 ∷ 59 ∷ 60 ∷ 62 ∷ 67 ∷ 69 ∷ 70 ∷ 72 ∷ 73 ∷ 74 ∷ 76 ∷ 77 ∷ 78 ∷ 79 ∷ 81 ∷ 90 ∷ []); full = true; shortest = 0; more = 0; less = 3; rank = 3 } ∷
    record { kind = 45; firsts = ones (69 ∷ []); follows = ones (0 ∷ 1 ∷ 2 ∷ 5 ∷ 6 ∷ 7 ∷ 8 ∷ 9 ∷ 10 ∷ 12 ∷ 13 ∷ 14 ∷ 20 ∷ 21 ∷ 22 ∷ 23 ∷ 24 ∷ 25 ∷ 26 ∷ 28 ∷ 29 ∷ 30 ∷ 31 ∷ 32 ∷ 40 ∷ 41 ∷ 42 ∷ 43 ∷ 47 ∷ 48 ∷ 49 ∷ 50 ∷ 51 ∷ 52 ∷ 53 ∷ 54 ∷ 55 ∷ 56 ∷ 57 ∷ 58 ∷ 59 ∷ 60 ∷ 62 ∷ 67 ∷ 69 ∷ 70 ∷ 72 ∷ 73 ∷ 74 ∷ 76 ∷ 77 ∷ 78 ∷ 79 ∷ 81 ∷ 90 ∷ []); full = true; shortest = 0; more = 0; less = 3; rank = 1 } ∷
    record { kind = 46; firsts = ones (13 ∷ 14 ∷ 41 ∷ []); follows = ones (41 ∷ []); full = false; shortest = 0; more = 1; less = 0; rank = 7 } ∷
    record { kind = 47; firsts = ones (13 ∷ 14 ∷ []); follows = ones (41 ∷ []); full = true; shortest = 0; more = 1; less = 0; rank = 5 } ∷
    record { kind = 48; firsts = ones (1 ∷ 2 ∷ 5 ∷ 6 ∷ 7 ∷ 8 ∷ 9 ∷ 10 ∷ 12 ∷ 13 ∷ 14 ∷ 40 ∷ 42 ∷ 52 ∷ 53 ∷ 60 ∷ 62 ∷ 67 ∷ 69 ∷ 73 ∷ 74 ∷ 76 ∷ 77 ∷ 78 ∷ 79 ∷ 81 ∷ 90 ∷ []); follows = ones (41 ∷ []); full = true; shortest = 0; more = 3; less = 0; rank = 20 } ∷
    record { kind = 49; firsts = ones (41 ∷ 48 ∷ []); follows = ones (41 ∷ []); full = false; shortest = 0; more = 0; less = 0; rank = 1 } ∷
    record { kind = 50; firsts = ones (13 ∷ 14 ∷ 41 ∷ 48 ∷ []); follows = ones (13 ∷ 14 ∷ 41 ∷ []); full = false; shortest = 0; more = 0; less = 0; rank = 1 } ∷
    record { kind = 51; firsts = ones (21 ∷ 69 ∷ []); follows = ones (21 ∷ []); full = false; shortest = 0; more = 0; less = 0; rank = 1 } ∷
    record { kind = 52; firsts = ones (13 ∷ 14 ∷ []); follows = ones (21 ∷ 69 ∷ []); full = true; shortest = 1; more = 1; less = 0; rank = 3 } ∷
    record { kind = 53; firsts = ones (13 ∷ []); follows = ones (21 ∷ 42 ∷ 69 ∷ []); full = true; shortest = 0; more = 0; less = 1; rank = 1 } ∷
    record { kind = 54; firsts = ones (21 ∷ 42 ∷ 69 ∷ []); follows = ones (21 ∷ 69 ∷ []); full = false; shortest = 0; more = 2; less = 0; rank = 2 } ∷
    record { kind = 55; firsts = pair 13 ∷ pair 14 ∷ ones (13 ∷ 14 ∷ 43 ∷ []); follows = ones (43 ∷ []); full = false; shortest = 0; more = 0; less = 0; rank = 3 } ∷
    record { kind = 56; firsts = ones (43 ∷ 48 ∷ []); follows = ones (43 ∷ []); full = false; shortest = 0; more = 0; less = 0; rank = 1 } ∷
    record { kind = 57; firsts = ones (1 ∷ 2 ∷ 5 ∷ 6 ∷ 7 ∷ 8 ∷ 9 ∷ 10 ∷ 12 ∷ 13 ∷ 14 ∷ 40 ∷ 42 ∷ 52 ∷ 53 ∷ 60 ∷ 62 ∷ 67 ∷ 69 ∷ 73 ∷ 74 ∷ 76 ∷ 77 ∷ 78 ∷ 79 ∷ 81 ∷ 90 ∷ []); follows = ones (0 ∷ 21 ∷ 41 ∷ 43 ∷ 47 ∷ 48 ∷ []); full = true; shortest = 0; more = 1; less = 0; rank = 17 } ∷
    record { kind = 58; firsts = ones (0 ∷ 1 ∷ 2 ∷ 5 ∷ 6 ∷ 7 ∷ 8 ∷ 9 ∷ 10 ∷ 12 ∷ 13 ∷ 14 ∷ 21 ∷ 40 ∷ 41 ∷ 42 ∷ 43 ∷ 47 ∷ 48 ∷ 52 ∷ 53 ∷ 60 ∷ 62 ∷ 67 ∷ 69 ∷ 73 ∷ 74 ∷ 76 ∷ 77 ∷ 78 ∷ 79 ∷ 81 ∷ 90 ∷ []); follows = ones (0 ∷ 21 ∷ 41 ∷ 43 ∷ 47 ∷ 48 ∷ []); full = false; shortest = 1; more = 1; less = 0; rank = 19 } ∷
    record { kind = 59; firsts = ones (0 ∷ 21 ∷ 28 ∷ 29 ∷ 30 ∷ 31 ∷ 32 ∷ 41 ∷ 43 ∷ 47 ∷ 48 ∷ 50 ∷ []); follows = ones (0 ∷ 21 ∷ 41 ∷ 43 ∷ 47 ∷ 48 ∷ []); full = false; shortest = 0; more = 0; less = 0; rank = 1 } ∷
    record { kind = 60; firsts = ones (1 ∷ 2 ∷ 5 ∷ 6 ∷ 7 ∷ 8 ∷ 9 ∷ 10 ∷ 12 ∷ 13 ∷ 14 ∷ 40 ∷ 42 ∷ 52 ∷ 53 ∷ 62 ∷ 67 ∷ 69 ∷ 73 ∷ 74 ∷ 78 ∷ 79 ∷ 81 ∷ 90 ∷ []); follows = ones (0 ∷ 21 ∷ 28 ∷ 29 ∷ 30 ∷ 31 ∷ 32 ∷ 41 ∷ 43 ∷ 47 ∷ 48 ∷ 50 ∷ []); full = true; shortest = 0; more = 1; less = 0; rank = 15 } ∷
    record { kind = 61; firsts = ones (0 ∷ 21 ∷ 26 ∷ 28 ∷ 29 ∷ 30 ∷ 31 ∷ 32 ∷ 41 ∷ 43 ∷ 47 ∷ 48 ∷ 50 ∷ []); follows = ones (0 ∷ 21 ∷ 28 ∷ 29 ∷ 30 ∷ 31 ∷ 32 ∷ 41 ∷ 43 ∷ 47 ∷ 48 ∷ 50 ∷ []); full = false; shortest = 0; more = 0; less = 0; rank = 1 } ∷
    record { kind = 62; firsts = ones (1 ∷ 2 ∷ 5 ∷ 6 ∷ 7 ∷ 8 ∷ 9 ∷ 10 ∷ 12 ∷ 13 ∷ 14 ∷ 40 ∷ 42 ∷ 52 ∷ 53 ∷ 62 ∷ 67 ∷ 69 ∷ 73 ∷ 74 ∷ 78 ∷ 79 ∷ 81 ∷ 90 ∷ []); follows = ones (0 ∷ 21 ∷ 26 ∷ 28 ∷ 29 ∷ 30 ∷ 31 ∷ 32 ∷ 41 ∷ 43 ∷ 47 ∷ 48 ∷ 50 ∷ []); full = true; shortest = 0; more = 1; less = 0; rank = 13 } ∷
    record { kind = 63; firsts = ones (0 ∷ 21 ∷ 25 ∷ 26 ∷ 28 ∷ 29 ∷ 30 ∷ 31 ∷ 32 ∷ 41 ∷ 43 ∷ 47 ∷ 48 ∷ 50 ∷ []); follows = ones (0 ∷ 21 ∷ 26 ∷ 28 ∷ 29 ∷ 30 ∷ 31 ∷ 32 ∷ 41 ∷ 43 ∷ 47 ∷ 48 ∷ 50 ∷ []); full = false; shortest = 0; more = 0; less = 0; rank = 1 } ∷
    record { kind = 64; firsts = ones (1 ∷ 2 ∷ 5 ∷ 6 ∷ 7 ∷ 8 ∷ 9 ∷ 10 ∷ 12 ∷ 13 ∷ 14 ∷ 40 ∷ 42 ∷ 52 ∷ 53 ∷ 62 ∷ 67 ∷ 69 ∷ 73 ∷ 74 ∷ 78 ∷ 79 ∷ 81 ∷ 90 ∷ []); follows = ones (0 ∷ 21 ∷ 25 ∷ 26 ∷ 28 ∷ 29 ∷ 30 ∷ 31 ∷ 32 ∷ 41 ∷ 43 ∷ 47 ∷ 48 ∷ 50 ∷ []); full = true; shortest = 0; more = 1; less = 0; rank = 11 } ∷
    record { kind = 65; firsts = ones (0 ∷ 20 ∷ 21 ∷ 22 ∷ 23 ∷ 24 ∷ 25 ∷ 26 ∷ 28 ∷ 29 ∷ 30 ∷ 31 ∷ 32 ∷ 41 ∷ 43 ∷ 47 ∷ 48 ∷ 50 ∷ 58 ∷ 59 ∷ []); follows = ones (0 ∷ 21 ∷ 25 ∷ 26 ∷ 28 ∷ 29 ∷ 30 ∷ 31 ∷ 32 ∷ 41 ∷ 43 ∷ 47 ∷ 48 ∷ 50 ∷ []); full = false; shortest = 0; more = 0; less = 0; rank = 1 } ∷
    record { kind = 66; firsts = ones (1 ∷ 2 ∷ 5 ∷ 6 ∷ 7 ∷ 8 ∷ 9 ∷ 10 ∷ 12 ∷ 13 ∷ 14 ∷ 40 ∷ 42 ∷ 52 ∷ 53 ∷ 62 ∷ 67 ∷ 69 ∷ 73 ∷ 74 ∷ 78 ∷ 79 ∷ 81 ∷ 90 ∷ []); follows = ones (0 ∷ 20 ∷ 21 ∷ 22 ∷ 23 ∷ 24 ∷ 25 ∷ 26 ∷ 28 ∷ 29 ∷ 30 ∷ 31 ∷ 32 ∷ 41 ∷ 43 ∷ 47 ∷ 48 ∷ 50 ∷ 58 ∷ 59 ∷ []); full = true; shortest = 0; more = 1; less = 0; rank = 9 } ∷
    record { kind = 67; firsts = ones (0 ∷ 20 ∷ 21 ∷ 22 ∷ 23 ∷ 24 ∷ 25 ∷ 26 ∷ 28 ∷ 29 ∷ 30 ∷ 31 ∷ 32 ∷ 41 ∷ 43 ∷ 47 ∷ 48 ∷ 50 ∷ 53 ∷ 54 ∷ 58 ∷ 59 ∷ []); follows = ones (0 ∷ 20 ∷ 21 ∷ 22 ∷ 23 ∷ 24 ∷ 25 ∷ 26 ∷ 28 ∷ 29 ∷ 30 ∷ 31 ∷ 32 ∷ 41 ∷ 43 ∷ 47 ∷ 48 ∷ 50 ∷ 58 ∷ 59 ∷ []); full = false; shortest = 0; more = 0; less = 0; rank = 1 } ∷
    record { kind = 68; firsts = ones (1 ∷ 2 ∷ 5 ∷ 6 ∷ 7 ∷ 8 ∷ 9 ∷ 10 ∷ 12 ∷ 13 ∷ 14 ∷ 40 ∷ 42 ∷ 52 ∷ 53 ∷ 62 ∷ 67 ∷ 69 ∷ 73 ∷ 74 ∷ 78 ∷ 79 ∷ 81 ∷ 90 ∷ []); follows = ones (0 ∷ 20 ∷ 21 ∷ 22 ∷ 23 ∷ 24 ∷ 25 ∷ 26 ∷ 28 ∷ 29 ∷ 30 ∷ 31 ∷ 32 ∷ 41 ∷ 43 ∷ 47 ∷ 48 ∷ 50 ∷ 53 ∷ 54 ∷ 58 ∷ 59 ∷ []); full = true; shortest = 0; more = 1; less = 0; rank = 7 } ∷
    record { kind = 69; firsts = ones (0 ∷ 20 ∷ 21 ∷ 22 ∷ 23 ∷ 24 ∷ 25 ∷ 26 ∷ 28 ∷ 29 ∷ 30 ∷ 31 ∷ 32 ∷ 41 ∷ 43 ∷ 47 ∷ 48 ∷ 50 ∷ 53 ∷ 54 ∷ 55 ∷ 56 ∷ 57 ∷ 58 ∷ 59 ∷ []); follows = ones (0 ∷ 20 ∷ 21 ∷ 22 ∷ 23 ∷ 24 ∷ 25 ∷ 26 ∷ 28 ∷ 29 ∷ 30 ∷ 31 ∷ 32 ∷ 41 ∷ 43 ∷ 47 ∷ 48 ∷ 50 ∷ 53 ∷ 54 ∷ 58 ∷ 59 ∷ []); full = false; shortest = 0; more = 0; less = 0; rank = 1 } ∷
    record { kind = 70; firsts = ones (1 ∷ 2 ∷ 5 ∷ 6 ∷ 7 ∷ 8 ∷ 9 ∷ 10 ∷ 12 ∷ 13 ∷ 14 ∷ 40 ∷ 42 ∷ 52 ∷ 53 ∷ 62 ∷ 67 ∷ 69 ∷ 73 ∷ 74 ∷ 78 ∷ 79 ∷ 81 ∷ 90 ∷ []); follows = ones (0 ∷ 20 ∷ 21 ∷ 22 ∷ 23 ∷ 24 ∷ 25 ∷ 26 ∷ 28 ∷ 29 ∷ 30 ∷ 31 ∷ 32 ∷ 41 ∷ 43 ∷ 47 ∷ 48 ∷ 50 ∷ 53 ∷ 54 ∷ 55 ∷ 56 ∷ 57 ∷ 58 ∷ 59 ∷ []); full = true; shortest = 2; more = 1; less = 0; rank = 5 } ∷
    record { kind = 71; firsts = ones (0 ∷ 20 ∷ 21 ∷ 22 ∷ 23 ∷ 24 ∷ 25 ∷ 26 ∷ 28 ∷ 29 ∷ 30 ∷ 31 ∷ 32 ∷ 41 ∷ 42 ∷ 43 ∷ 47 ∷ 48 ∷ 49 ∷ 50 ∷ 51 ∷ 53 ∷ 54 ∷ 55 ∷ 56 ∷ 57 ∷ 58 ∷ 59 ∷ []); follows = ones (0 ∷ 20 ∷ 21 ∷ 22 ∷ 23 ∷ 24 ∷ 25 ∷ 26 ∷ 28 ∷ 29 ∷ 30 ∷ 31 ∷ 32 ∷ 41 ∷ 43 ∷ 47 ∷ 48 ∷ 50 ∷ 53 ∷ 54 ∷ 55 ∷ 56 ∷ 57 ∷ 58 ∷ 59 ∷ []); full = false; shortest = 0; more = 0; less = 0; rank = 1 } ∷
    record { kind = 72; firsts = ones (0 ∷ 20 ∷ 21 ∷ 22 ∷ 23 ∷ 24 ∷ 25 ∷ 26 ∷ 28 ∷ 29 ∷ 30 ∷ 31 ∷ 32 ∷ 40 ∷ 41 ∷ 42 ∷ 43 ∷ 47 ∷ 48 ∷ 50 ∷ 51 ∷ 53 ∷ 54 ∷ 55 ∷ 56 ∷ 57 ∷ 58 ∷ 59 ∷ []); follows = ones (0 ∷ 20 ∷ 21 ∷ 22 ∷ 23 ∷ 24 ∷ 25 ∷ 26 ∷ 28 ∷ 29 ∷ 30 ∷ 31 ∷ 32 ∷ 41 ∷ 43 ∷ 47 ∷ 48 ∷ 50 ∷ 53 ∷ 54 ∷ 55 ∷ 56 ∷ 57 ∷ 58 ∷ 59 ∷ []); full = false; shortest = 0; more = 0; less = 0; rank = 1 } ∷
    record { kind = 73; firsts = ones (1 ∷ 2 ∷ 5 ∷ 6 ∷ 7 ∷ 8 ∷ 9 ∷ 10 ∷ 12 ∷ 13 ∷ 14 ∷ 40 ∷ 42 ∷ 52 ∷ 53 ∷ 60 ∷ 62 ∷ 67 ∷ 69 ∷ 73 ∷ 74 ∷ 76 ∷ 77 ∷ 78 ∷ 79 ∷ 81 ∷ 90 ∷ []); follows = ones (40 ∷ []); full = true; shortest = 1; more = 1; less = 0; rank = 17 } ∷
    record { kind = 74; firsts = ones (1 ∷ 2 ∷ 5 ∷ 6 ∷ 7 ∷ 8 ∷ 9 ∷ 10 ∷ 12 ∷ 13 ∷ 14 ∷ 40 ∷ 42 ∷ 52 ∷ 53 ∷ 60 ∷ 62 ∷ 67 ∷ 69 ∷ 73 ∷ 74 ∷ 76 ∷ 77 ∷ 78 ∷ 79 ∷ 81 ∷ 90 ∷ []); follows = ones (40 ∷ []); full = true; shortest = 0; more = 1; less = 0; rank = 19 } ∷
    record { kind = 75; firsts = ones (28 ∷ 29 ∷ 30 ∷ 31 ∷ 32 ∷ 40 ∷ 50 ∷ []); follows = ones (40 ∷ []); full = false; shortest = 0; more = 0; less = 0; rank = 1 } ∷
    record { kind = 76; firsts = ones (1 ∷ 2 ∷ 5 ∷ 6 ∷ 7 ∷ 8 ∷ 9 ∷ 10 ∷ 12 ∷ 13 ∷ 14 ∷ 40 ∷ 42 ∷ 52 ∷ 53 ∷ 62 ∷ 67 ∷ 69 ∷ 73 ∷ 74 ∷ 78 ∷ 79 ∷ 81 ∷ 90 ∷ []); follows = ones (28 ∷ 29 ∷ 30 ∷ 31 ∷ 32 ∷ 40 ∷ 50 ∷ []); full = true; shortest = 0; more = 1; less = 0; rank = 15 } ∷
    record { kind = 77; firsts = ones (26 ∷ 28 ∷ 29 ∷ 30 ∷ 31 ∷ 32 ∷ 40 ∷ 50 ∷ []); follows = ones (28 ∷ 29 ∷ 30 ∷ 31 ∷ 32 ∷ 40 ∷ 50 ∷ []); full = false; shortest = 0; more = 0; less = 0; rank = 1 } ∷
    record { kind = 78; firsts = ones (1 ∷ 2 ∷ 5 ∷ 6 ∷ 7 ∷ 8 ∷ 9 ∷ 10 ∷ 12 ∷ 13 ∷ 14 ∷ 40 ∷ 42 ∷ 52 ∷ 53 ∷ 62 ∷ 67 ∷ 69 ∷ 73 ∷ 74 ∷ 78 ∷ 79 ∷ 81 ∷ 90 ∷ []); follows = ones (26 ∷ 28 ∷ 29 ∷ 30 ∷ 31 ∷ 32 ∷ 40 ∷ 50 ∷ []); full = true; shortest = 0; more = 1; less = 0; rank = 13 } ∷
    record { kind = 79; firsts = ones (25 ∷ 26 ∷ 28 ∷ 29 ∷ 30 ∷ 31 ∷ 32 ∷ 40 ∷ 50 ∷ []); follows = ones (26 ∷ 28 ∷ 29 ∷ 30 ∷ 31 ∷ 32 ∷ 40 ∷ 50 ∷ []); full = false; shortest = 0; more = 0; less = 0; rank = 1 } ∷
    record { kind = 80; firsts = ones (1 ∷ 2 ∷ 5 ∷ 6 ∷ 7 ∷ 8 ∷ 9 ∷ 10 ∷ 12 ∷ 13 ∷ 14 ∷ 40 ∷ 42 ∷ 52 ∷ 53 ∷ 62 ∷ 67 ∷ 69 ∷ 73 ∷ 74 ∷ 78 ∷ 79 ∷ 81 ∷ 90 ∷ []); follows = ones (25 ∷ 26 ∷ 28 ∷ 29 ∷ 30 ∷ 31 ∷ 32 ∷ 40 ∷ 50 ∷ []); full = true; shortest = 0; more = 1; less = 0; rank = 11 } ∷
    record { kind = 81; firsts = ones (20 ∷ 22 ∷ 23 ∷ 24 ∷ 25 ∷ 26 ∷ 28 ∷ 29 ∷ 30 ∷ 31 ∷ 32 ∷ 40 ∷ 50 ∷ 58 ∷ 59 ∷ []); follows = ones (25 ∷ 26 ∷ 28 ∷ 29 ∷ 30 ∷ 31 ∷ 32 ∷ 40 ∷ 50 ∷ []); full = false; shortest = 0; more = 0; less = 0; rank = 1 } ∷
    record { kind = 82; firsts = ones (1 ∷ 2 ∷ 5 ∷ 6 ∷ 7 ∷ 8 ∷ 9 ∷ 10 ∷ 12 ∷ 13 ∷ 14 ∷ 40 ∷ 42 ∷ 52 ∷ 53 ∷ 62 ∷ 67 ∷ 69 ∷ 73 ∷ 74 ∷ 78 ∷ 79 ∷ 81 ∷ 90 ∷ []); follows = ones (20 ∷ 22 ∷ 23 ∷ 24 ∷ 25 ∷ 26 ∷ 28 ∷ 29 ∷ 30 ∷ 31 ∷ 32 ∷ 40 ∷ 50 ∷ 58 ∷ 59 ∷ []); full = true; shortest = 0; more = 1; less = 0; rank = 9 } ∷
    record { kind = 83; firsts = ones (20 ∷ 22 ∷ 23 ∷ 24 ∷ 25 ∷ 26 ∷ 28 ∷ 29 ∷ 30 ∷ 31 ∷ 32 ∷ 40 ∷ 50 ∷ 53 ∷ 54 ∷ 58 ∷ 59 ∷ []); follows = ones (20 ∷ 22 ∷ 23 ∷ 24 ∷ 25 ∷ 26 ∷ 28 ∷ 29 ∷ 30 ∷ 31 ∷ 32 ∷ 40 ∷ 50 ∷ 58 ∷ 59 ∷ []); full = false; shortest = 0; more = 0; less = 0; rank = 1 } ∷
    record { kind = 84; firsts = ones (1 ∷ 2 ∷ 5 ∷ 6 ∷ 7 ∷ 8 ∷ 9 ∷ 10 ∷ 12 ∷ 13 ∷ 14 ∷ 40 ∷ 42 ∷ 52 ∷ 53 ∷ 62 ∷ 67 ∷ 69 ∷ 73 ∷ 74 ∷ 78 ∷ 79 ∷ 81 ∷ 90 ∷ []); follows = ones (20 ∷ 22 ∷ 23 ∷ 24 ∷ 25 ∷ 26 ∷ 28 ∷ 29 ∷ 30 ∷ 31 ∷ 32 ∷ 40 ∷ 50 ∷ 53 ∷ 54 ∷ 58 ∷ 59 ∷ []); full = true; shortest = 0; more = 1; less = 0; rank = 7 } ∷
    record { kind = 85; firsts = ones (20 ∷ 22 ∷ 23 ∷ 24 ∷ 25 ∷ 26 ∷ 28 ∷ 29 ∷ 30 ∷ 31 ∷ 32 ∷ 40 ∷ 50 ∷ 53 ∷ 54 ∷ 55 ∷ 56 ∷ 57 ∷ 58 ∷ 59 ∷ []); follows = ones (20 ∷ 22 ∷ 23 ∷ 24 ∷ 25 ∷ 26 ∷ 28 ∷ 29 ∷ 30 ∷ 31 ∷ 32 ∷ 40 ∷ 50 ∷ 53 ∷ 54 ∷ 58 ∷ 59 ∷ []); full = false; shortest = 0; more = 0; less = 0; rank = 1 } ∷
    record { kind = 86; firsts = ones (1 ∷ 2 ∷ 5 ∷ 6 ∷ 7 ∷ 8 ∷ 9 ∷ 10 ∷ 12 ∷ 13 ∷ 14 ∷ 40 ∷ 42 ∷ 52 ∷ 53 ∷ 62 ∷ 67 ∷ 69 ∷ 73 ∷ 74 ∷ 78 ∷ 79 ∷ 81 ∷ 90 ∷ []); follows = ones (20 ∷ 22 ∷ 23 ∷ 24 ∷ 25 ∷ 26 ∷ 28 ∷ 29 ∷ 30 ∷ 31 ∷ 32 ∷ 40 ∷ 50 ∷ 53 ∷ 54 ∷ 55 ∷ 56 ∷ 57 ∷ 58 ∷ 59 ∷ []); full = true; shortest = 2; more = 1; less = 0; rank = 5 } ∷
    record { kind = 87; firsts = ones (20 ∷ 22 ∷ 23 ∷ 24 ∷ 25 ∷ 26 ∷ 28 ∷ 29 ∷ 30 ∷ 31 ∷ 32 ∷ 40 ∷ 42 ∷ 49 ∷ 50 ∷ 51 ∷ 53 ∷ 54 ∷ 55 ∷ 56 ∷ 57 ∷ 58 ∷ 59 ∷ []); follows = ones (20 ∷ 22 ∷ 23 ∷ 24 ∷ 25 ∷ 26 ∷ 28 ∷ 29 ∷ 30 ∷ 31 ∷ 32 ∷ 40 ∷ 50 ∷ 53 ∷ 54 ∷ 55 ∷ 56 ∷ 57 ∷ 58 ∷ 59 ∷ []); full = false; shortest = 0; more = 0; less = 0; rank = 1 } ∷
    record { kind = 88; firsts = ones (20 ∷ 22 ∷ 23 ∷ 24 ∷ 25 ∷ 26 ∷ 28 ∷ 29 ∷ 30 ∷ 31 ∷ 32 ∷ 40 ∷ 42 ∷ 50 ∷ 51 ∷ 53 ∷ 54 ∷ 55 ∷ 56 ∷ 57 ∷ 58 ∷ 59 ∷ []); follows = ones (20 ∷ 22 ∷ 23 ∷ 24 ∷ 25 ∷ 26 ∷ 28 ∷ 29 ∷ 30 ∷ 31 ∷ 32 ∷ 40 ∷ 50 ∷ 53 ∷ 54 ∷ 55 ∷ 56 ∷ 57 ∷ 58 ∷ 59 ∷ []); full = false; shortest = 0; more = 0; less = 0; rank = 1 } ∷
    record { kind = 89; firsts = ones (90 ∷ []); follows = ones (0 ∷ 20 ∷ 21 ∷ 22 ∷ 23 ∷ 24 ∷ 25 ∷ 26 ∷ 28 ∷ 29 ∷ 30 ∷ 31 ∷ 32 ∷ 40 ∷ 41 ∷ 42 ∷ 43 ∷ 47 ∷ 48 ∷ 49 ∷ 50 ∷ 51 ∷ 53 ∷ 54 ∷ 55 ∷ 56 ∷ 57 ∷ 58 ∷ 59 ∷ []); full = true; shortest = 0; more = 0; less = 1; rank = 1 } ∷
    record { kind = 90; firsts = ones (40 ∷ []); follows = ones (0 ∷ 20 ∷ 21 ∷ 22 ∷ 23 ∷ 24 ∷ 25 ∷ 26 ∷ 28 ∷ 29 ∷ 30 ∷ 31 ∷ 32 ∷ 40 ∷ 41 ∷ 42 ∷ 43 ∷ 47 ∷ 48 ∷ 49 ∷ 50 ∷ 51 ∷ 53 ∷ 54 ∷ 55 ∷ 56 ∷ 57 ∷ 58 ∷ 59 ∷ []); full = true; shortest = 0; more = 0; less = 5; rank = 1 } ∷
    []
