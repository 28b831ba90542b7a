-- What was decided where the words of documents 01 and 02 leave room, each with a small source that tells.
use Rattle.std.specs.Prelude.{List, [], ◌∷◌}
use Rattle.chars.specs.Texts.{bytes}
use Rattle.answers.specs.Cases.{Case, row, tree_has, expr_has, tree_fails, expr_fails, old_has, old_fails}

unfoldable pub decided : List Case
unfolding bytes
decided =
    -- a return form takes an expr where the next token can begin one by the grammar
    expr_has "return 0x1" (row 10 7 10 0 1 0 1 ∷ row 27 0 10 1 0 1 2 ∷ []) ∷
    expr_has "return 'a' " (row 17 7 10 0 97 0 1 ∷ row 27 0 10 1 0 1 2 ∷ []) ∷
    expr_has "accept if a{}" (row 1 10 11 0 0 0 1 ∷ row 2 10 11 1 0 0 2 ∷ row 35 11 13 0 0 0 1 ∷ row 28 7 13 2 0 0 4 ∷ row 27 0 13 1 0 2 5 ∷ []) ∷
    expr_has "reject pkg" (row 1 7 10 0 0 0 1 ∷ row 2 7 10 1 0 0 2 ∷ row 27 0 10 1 0 3 3 ∷ []) ∷
    expr_has "return return" (row 27 7 13 0 0 1 1 ∷ row 27 0 13 1 0 1 2 ∷ []) ∷
    expr_fails "return [" 6 7 8 ∷
    -- no sign stands after a return form, and no return form is an operand
    expr_fails "return=1" 6 6 7 ∷
    expr_fails "return a=b=c" 6 10 11 ∷
    expr_fails "a=return" 6 2 8 ∷
    expr_fails "1+return" 6 2 8 ∷
    expr_fails "return?" 6 6 7 ∷
    expr_fails "return.a" 6 6 7 ∷
    expr_has "(return)+1" (row 27 1 7 0 0 1 1 ∷ row 10 9 10 0 1 0 1 ∷ row 20 1 10 2 0 9 3 ∷ []) ∷
    expr_has "a=(return 1)" (row 1 0 1 0 0 0 1 ∷ row 2 0 1 1 0 0 2 ∷ row 10 10 11 0 1 0 1 ∷ row 27 3 11 1 0 1 2 ∷ row 26 0 11 2 0 0 5 ∷ []) ∷
    -- the ban on records covers a return form, and records without a path; brackets end it
    expr_has "if return x {}" (row 1 10 11 0 0 0 1 ∷ row 2 10 11 1 0 0 2 ∷ row 27 3 11 1 0 1 3 ∷ row 35 12 14 0 0 0 1 ∷ row 28 0 14 2 0 0 5 ∷ []) ∷
    expr_fails "if return x {y:1} {}" 6 14 15 ∷
    expr_has "if ({x:1}) {}" (row 1 5 6 0 0 0 1 ∷ row 10 7 8 0 1 0 1 ∷ row 37 5 8 2 0 0 3 ∷ row 36 4 9 1 0 0 4 ∷ row 35 11 13 0 0 0 1 ∷ row 28 0 13 2 0 0 6 ∷ []) ∷
    expr_has "if {{x:1}} {}" (row 1 5 6 0 0 0 1 ∷ row 10 7 8 0 1 0 1 ∷ row 37 5 8 2 0 0 3 ∷ row 36 4 9 1 0 0 4 ∷ row 35 3 10 1 1 0 5 ∷ row 35 11 13 0 0 0 1 ∷
    row 28 0 13 2 0 0 7 ∷ []) ∷
    -- 8 where a sign could stand behind what is no path; 6 where none could
    expr_fails "(a=b)=c" 8 1 4 ∷
    expr_fails "a+b=c" 8 0 3 ∷
    expr_fails "a==b=c" 8 0 4 ∷
    expr_fails "a=b+=c" 6 3 5 ∷
    expr_fails "a==b==c=d" 6 4 6 ∷
    expr_fails "{}=1" 8 0 2 ∷
    expr_fails "{ {}=1 }" 8 2 4 ∷
    expr_fails "a{}=1" 8 0 3 ∷
    expr_fails "a?=1" 8 0 2 ∷
    expr_fails "(a).b=1" 8 1 5 ∷
    expr_fails "{let a+=1;}" 6 6 8 ∷
    tree_fails "const A: u8 += 1;" 6 12 14 ∷
    tree_fails "const A: u8 = 1 = 2;" 8 14 15 ∷
    expr_has "if a=b {}" (row 1 3 4 0 0 0 1 ∷ row 2 3 4 1 0 0 2 ∷ row 1 5 6 0 0 0 1 ∷ row 2 5 6 1 0 0 2 ∷ row 26 3 6 2 0 0 5 ∷ row 35 7 9 0 0 0 1 ∷
    row 28 0 9 2 0 0 7 ∷ []) ∷
    expr_has "((a))*=1" (row 1 2 3 0 0 0 1 ∷ row 2 2 3 1 0 0 2 ∷ row 10 7 8 0 1 0 1 ∷ row 26 2 8 2 0 3 4 ∷ []) ∷
    expr_has "a.b=1" (row 1 0 1 0 0 0 1 ∷ row 1 2 3 0 0 0 1 ∷ row 2 0 3 2 0 0 3 ∷ row 10 4 5 0 1 0 1 ∷ row 26 0 5 2 0 0 5 ∷ []) ∷
    expr_has "pkg=1" (row 1 0 3 0 0 0 1 ∷ row 2 0 3 1 0 0 2 ∷ row 10 4 5 0 1 0 1 ∷ row 26 0 5 2 0 0 4 ∷ []) ∷
    expr_has "_=1" (row 1 0 1 0 0 0 1 ∷ row 2 0 1 1 0 0 2 ∷ row 10 2 3 0 1 0 1 ∷ row 26 0 3 2 0 0 4 ∷ []) ∷
    -- prefixes in a row are one count; heads count through brackets
    expr_fails "return !!!!!!!!!!!!!!!!!!!!!!!!!!!!!!!!a" 9 38 39 ∷
    expr_fails "!!!!!!!!!!!!!!!!!!!!!!!!!!!!!!!!return" 6 32 38 ∷
    expr_fails "!!!!!!!!!!!!!!!!!!!!!!!!!!!!!!!!-a" 9 32 33 ∷
    expr_fails "if (if (if (if (if (if (if (if (if (if (if (if (if (if (if (if (if (if (if (if (if (if (if (if (if (if (if (if (if (if (if (if (if" 9 128 130 ∷
    expr_fails "if {if {if {if {if {if {if {if {if {if {if {if {if {if {if {if {if {if {if {if {if {if {if {if {if {if {if {if {if {if {if {if {if" 9 128 130 ∷
    -- 32 of each are allowed
    expr_has "((((((((((((((((((((((((((((((((a))))))))))))))))))))))))))))))))" (row 1 32 33 0 0 0 1 ∷ row 2 32 33 1 0 0 2 ∷ []) ∷
    expr_has "!!!!!!!!!!!!!!!!!!!!!!!!!!!!!!!!a" (row 1 32 33 0 0 0 1 ∷ row 2 32 33 1 0 0 2 ∷ row 21 31 33 1 0 0 3 ∷ row 21 30 33 1 0 0 4 ∷ row 21 29 33 1 0 0 5 ∷
    row 21 28 33 1 0 0 6 ∷ row 21 27 33 1 0 0 7 ∷ row 21 26 33 1 0 0 8 ∷ row 21 25 33 1 0 0 9 ∷ row 21 24 33 1 0 0 10 ∷
    row 21 23 33 1 0 0 11 ∷ row 21 22 33 1 0 0 12 ∷ row 21 21 33 1 0 0 13 ∷ row 21 20 33 1 0 0 14 ∷ row 21 19 33 1 0 0 15 ∷
    row 21 18 33 1 0 0 16 ∷ row 21 17 33 1 0 0 17 ∷ row 21 16 33 1 0 0 18 ∷ row 21 15 33 1 0 0 19 ∷ row 21 14 33 1 0 0 20 ∷
    row 21 13 33 1 0 0 21 ∷ row 21 12 33 1 0 0 22 ∷ row 21 11 33 1 0 0 23 ∷ row 21 10 33 1 0 0 24 ∷ row 21 9 33 1 0 0 25 ∷
    row 21 8 33 1 0 0 26 ∷ row 21 7 33 1 0 0 27 ∷ row 21 6 33 1 0 0 28 ∷ row 21 5 33 1 0 0 29 ∷ row 21 4 33 1 0 0 30 ∷
    row 21 3 33 1 0 0 31 ∷ row 21 2 33 1 0 0 32 ∷ row 21 1 33 1 0 0 33 ∷ row 21 0 33 1 0 0 34 ∷ []) ∷
    expr_has "return a+!!!!!!!!!!!!!!!!!!!!!!!!!!!!!!!!a" (row 1 7 8 0 0 0 1 ∷ row 2 7 8 1 0 0 2 ∷ row 1 41 42 0 0 0 1 ∷ row 2 41 42 1 0 0 2 ∷ row 21 40 42 1 0 0 3 ∷
    row 21 39 42 1 0 0 4 ∷ row 21 38 42 1 0 0 5 ∷ row 21 37 42 1 0 0 6 ∷ row 21 36 42 1 0 0 7 ∷ row 21 35 42 1 0 0 8 ∷
    row 21 34 42 1 0 0 9 ∷ row 21 33 42 1 0 0 10 ∷ row 21 32 42 1 0 0 11 ∷ row 21 31 42 1 0 0 12 ∷ row 21 30 42 1 0 0 13 ∷
    row 21 29 42 1 0 0 14 ∷ row 21 28 42 1 0 0 15 ∷ row 21 27 42 1 0 0 16 ∷ row 21 26 42 1 0 0 17 ∷ row 21 25 42 1 0 0 18 ∷
    row 21 24 42 1 0 0 19 ∷ row 21 23 42 1 0 0 20 ∷ row 21 22 42 1 0 0 21 ∷ row 21 21 42 1 0 0 22 ∷ row 21 20 42 1 0 0 23 ∷
    row 21 19 42 1 0 0 24 ∷ row 21 18 42 1 0 0 25 ∷ row 21 17 42 1 0 0 26 ∷ row 21 16 42 1 0 0 27 ∷ row 21 15 42 1 0 0 28 ∷
    row 21 14 42 1 0 0 29 ∷ row 21 13 42 1 0 0 30 ∷ row 21 12 42 1 0 0 31 ∷ row 21 11 42 1 0 0 32 ∷ row 21 10 42 1 0 0 33 ∷
    row 21 9 42 1 0 0 34 ∷ row 20 7 42 2 0 9 37 ∷ row 27 0 42 1 0 1 38 ∷ []) ∷
    expr_has "if if if if if if if if if if if if if if if if if if if if if if if if if if if if if if if if a{}{}{}{}{}{}{}{}{}{}{}{}{}{}{}{}{}{}{}{}{}{}{}{}{}{}{}{}{}{}{}{}" (row 1 96 97 0 0 0 1 ∷ row 2 96 97 1 0 0 2 ∷ row 35 97 99 0 0 0 1 ∷ row 28 93 99 2 0 0 4 ∷ row 35 99 101 0 0 0 1 ∷
    row 28 90 101 2 0 0 6 ∷ row 35 101 103 0 0 0 1 ∷ row 28 87 103 2 0 0 8 ∷ row 35 103 105 0 0 0 1 ∷
    row 28 84 105 2 0 0 10 ∷ row 35 105 107 0 0 0 1 ∷ row 28 81 107 2 0 0 12 ∷ row 35 107 109 0 0 0 1 ∷
    row 28 78 109 2 0 0 14 ∷ row 35 109 111 0 0 0 1 ∷ row 28 75 111 2 0 0 16 ∷ row 35 111 113 0 0 0 1 ∷
    row 28 72 113 2 0 0 18 ∷ row 35 113 115 0 0 0 1 ∷ row 28 69 115 2 0 0 20 ∷ row 35 115 117 0 0 0 1 ∷
    row 28 66 117 2 0 0 22 ∷ row 35 117 119 0 0 0 1 ∷ row 28 63 119 2 0 0 24 ∷ row 35 119 121 0 0 0 1 ∷
    row 28 60 121 2 0 0 26 ∷ row 35 121 123 0 0 0 1 ∷ row 28 57 123 2 0 0 28 ∷ row 35 123 125 0 0 0 1 ∷
    row 28 54 125 2 0 0 30 ∷ row 35 125 127 0 0 0 1 ∷ row 28 51 127 2 0 0 32 ∷ row 35 127 129 0 0 0 1 ∷
    row 28 48 129 2 0 0 34 ∷ row 35 129 131 0 0 0 1 ∷ row 28 45 131 2 0 0 36 ∷ row 35 131 133 0 0 0 1 ∷
    row 28 42 133 2 0 0 38 ∷ row 35 133 135 0 0 0 1 ∷ row 28 39 135 2 0 0 40 ∷ row 35 135 137 0 0 0 1 ∷
    row 28 36 137 2 0 0 42 ∷ row 35 137 139 0 0 0 1 ∷ row 28 33 139 2 0 0 44 ∷ row 35 139 141 0 0 0 1 ∷
    row 28 30 141 2 0 0 46 ∷ row 35 141 143 0 0 0 1 ∷ row 28 27 143 2 0 0 48 ∷ row 35 143 145 0 0 0 1 ∷
    row 28 24 145 2 0 0 50 ∷ row 35 145 147 0 0 0 1 ∷ row 28 21 147 2 0 0 52 ∷ row 35 147 149 0 0 0 1 ∷
    row 28 18 149 2 0 0 54 ∷ row 35 149 151 0 0 0 1 ∷ row 28 15 151 2 0 0 56 ∷ row 35 151 153 0 0 0 1 ∷
    row 28 12 153 2 0 0 58 ∷ row 35 153 155 0 0 0 1 ∷ row 28 9 155 2 0 0 60 ∷ row 35 155 157 0 0 0 1 ∷ row 28 6 157 2 0 0 62 ∷
    row 35 157 159 0 0 0 1 ∷ row 28 3 159 2 0 0 64 ∷ row 35 159 161 0 0 0 1 ∷ row 28 0 161 2 0 0 66 ∷ []) ∷
    expr_has "if a{}else if a{}else if a{}else if a{}else if a{}else if a{}else if a{}else if a{}else if a{}else if a{}else if a{}else if a{}else if a{}else if a{}else if a{}else if a{}else if a{}else if a{}else if a{}else if a{}else if a{}else if a{}else if a{}else if a{}else if a{}else if a{}else if a{}else if a{}else if a{}else if a{}else if a{}else if a{}else if a{}else {}" (row 1 3 4 0 0 0 1 ∷ row 2 3 4 1 0 0 2 ∷ row 35 4 6 0 0 0 1 ∷ row 1 14 15 0 0 0 1 ∷ row 2 14 15 1 0 0 2 ∷ row 35 15 17 0 0 0 1 ∷
    row 1 25 26 0 0 0 1 ∷ row 2 25 26 1 0 0 2 ∷ row 35 26 28 0 0 0 1 ∷ row 1 36 37 0 0 0 1 ∷ row 2 36 37 1 0 0 2 ∷
    row 35 37 39 0 0 0 1 ∷ row 1 47 48 0 0 0 1 ∷ row 2 47 48 1 0 0 2 ∷ row 35 48 50 0 0 0 1 ∷ row 1 58 59 0 0 0 1 ∷
    row 2 58 59 1 0 0 2 ∷ row 35 59 61 0 0 0 1 ∷ row 1 69 70 0 0 0 1 ∷ row 2 69 70 1 0 0 2 ∷ row 35 70 72 0 0 0 1 ∷
    row 1 80 81 0 0 0 1 ∷ row 2 80 81 1 0 0 2 ∷ row 35 81 83 0 0 0 1 ∷ row 1 91 92 0 0 0 1 ∷ row 2 91 92 1 0 0 2 ∷
    row 35 92 94 0 0 0 1 ∷ row 1 102 103 0 0 0 1 ∷ row 2 102 103 1 0 0 2 ∷ row 35 103 105 0 0 0 1 ∷ row 1 113 114 0 0 0 1 ∷
    row 2 113 114 1 0 0 2 ∷ row 35 114 116 0 0 0 1 ∷ row 1 124 125 0 0 0 1 ∷ row 2 124 125 1 0 0 2 ∷
    row 35 125 127 0 0 0 1 ∷ row 1 135 136 0 0 0 1 ∷ row 2 135 136 1 0 0 2 ∷ row 35 136 138 0 0 0 1 ∷
    row 1 146 147 0 0 0 1 ∷ row 2 146 147 1 0 0 2 ∷ row 35 147 149 0 0 0 1 ∷ row 1 157 158 0 0 0 1 ∷
    row 2 157 158 1 0 0 2 ∷ row 35 158 160 0 0 0 1 ∷ row 1 168 169 0 0 0 1 ∷ row 2 168 169 1 0 0 2 ∷
    row 35 169 171 0 0 0 1 ∷ row 1 179 180 0 0 0 1 ∷ row 2 179 180 1 0 0 2 ∷ row 35 180 182 0 0 0 1 ∷
    row 1 190 191 0 0 0 1 ∷ row 2 190 191 1 0 0 2 ∷ row 35 191 193 0 0 0 1 ∷ row 1 201 202 0 0 0 1 ∷
    row 2 201 202 1 0 0 2 ∷ row 35 202 204 0 0 0 1 ∷ row 1 212 213 0 0 0 1 ∷ row 2 212 213 1 0 0 2 ∷
    row 35 213 215 0 0 0 1 ∷ row 1 223 224 0 0 0 1 ∷ row 2 223 224 1 0 0 2 ∷ row 35 224 226 0 0 0 1 ∷
    row 1 234 235 0 0 0 1 ∷ row 2 234 235 1 0 0 2 ∷ row 35 235 237 0 0 0 1 ∷ row 1 245 246 0 0 0 1 ∷
    row 2 245 246 1 0 0 2 ∷ row 35 246 248 0 0 0 1 ∷ row 1 256 257 0 0 0 1 ∷ row 2 256 257 1 0 0 2 ∷
    row 35 257 259 0 0 0 1 ∷ row 1 267 268 0 0 0 1 ∷ row 2 267 268 1 0 0 2 ∷ row 35 268 270 0 0 0 1 ∷
    row 1 278 279 0 0 0 1 ∷ row 2 278 279 1 0 0 2 ∷ row 35 279 281 0 0 0 1 ∷ row 1 289 290 0 0 0 1 ∷
    row 2 289 290 1 0 0 2 ∷ row 35 290 292 0 0 0 1 ∷ row 1 300 301 0 0 0 1 ∷ row 2 300 301 1 0 0 2 ∷
    row 35 301 303 0 0 0 1 ∷ row 1 311 312 0 0 0 1 ∷ row 2 311 312 1 0 0 2 ∷ row 35 312 314 0 0 0 1 ∷
    row 1 322 323 0 0 0 1 ∷ row 2 322 323 1 0 0 2 ∷ row 35 323 325 0 0 0 1 ∷ row 1 333 334 0 0 0 1 ∷
    row 2 333 334 1 0 0 2 ∷ row 35 334 336 0 0 0 1 ∷ row 1 344 345 0 0 0 1 ∷ row 2 344 345 1 0 0 2 ∷
    row 35 345 347 0 0 0 1 ∷ row 1 355 356 0 0 0 1 ∷ row 2 355 356 1 0 0 2 ∷ row 35 356 358 0 0 0 1 ∷
    row 35 363 365 0 0 0 1 ∷ row 28 352 365 3 0 0 5 ∷ row 28 341 365 3 0 0 9 ∷ row 28 330 365 3 0 0 13 ∷
    row 28 319 365 3 0 0 17 ∷ row 28 308 365 3 0 0 21 ∷ row 28 297 365 3 0 0 25 ∷ row 28 286 365 3 0 0 29 ∷
    row 28 275 365 3 0 0 33 ∷ row 28 264 365 3 0 0 37 ∷ row 28 253 365 3 0 0 41 ∷ row 28 242 365 3 0 0 45 ∷
    row 28 231 365 3 0 0 49 ∷ row 28 220 365 3 0 0 53 ∷ row 28 209 365 3 0 0 57 ∷ row 28 198 365 3 0 0 61 ∷
    row 28 187 365 3 0 0 65 ∷ row 28 176 365 3 0 0 69 ∷ row 28 165 365 3 0 0 73 ∷ row 28 154 365 3 0 0 77 ∷
    row 28 143 365 3 0 0 81 ∷ row 28 132 365 3 0 0 85 ∷ row 28 121 365 3 0 0 89 ∷ row 28 110 365 3 0 0 93 ∷
    row 28 99 365 3 0 0 97 ∷ row 28 88 365 3 0 0 101 ∷ row 28 77 365 3 0 0 105 ∷ row 28 66 365 3 0 0 109 ∷ row 28 55 365 3 0 0 113 ∷
    row 28 44 365 3 0 0 117 ∷ row 28 33 365 3 0 0 121 ∷ row 28 22 365 3 0 0 125 ∷ row 28 11 365 3 0 0 129 ∷ row 28 0 365 3 0 0 133 ∷ []) ∷
    -- rows of imports, of `else if`, of arms and patterns
    tree_has "import a;" (row 1 7 8 0 0 0 1 ∷ row 44 7 8 1 0 0 2 ∷ row 39 7 8 1 0 0 3 ∷ row 43 0 9 1 0 0 4 ∷ []) ∷
    tree_fails "import a.{{b}};" 6 10 11 ∷
    tree_fails "import a.{a.{a.{a.{a.{a.{a.{a.{a.{a.{a.{a.{a.{a.{a.{a.{a.{a.{a.{a.{a.{a.{a.{a.{a.{a.{a.{a.{a.{a.{a.{a.{a.{" 9 105 106 ∷
    expr_has "if a{}else if b{}" (row 1 3 4 0 0 0 1 ∷ row 2 3 4 1 0 0 2 ∷ row 35 4 6 0 0 0 1 ∷ row 1 14 15 0 0 0 1 ∷ row 2 14 15 1 0 0 2 ∷ row 35 15 17 0 0 0 1 ∷
    row 28 11 17 2 0 0 4 ∷ row 28 0 17 3 0 0 8 ∷ []) ∷
    expr_has "match a {b=>(1),}" (row 1 6 7 0 0 0 1 ∷ row 2 6 7 1 0 0 2 ∷ row 1 9 10 0 0 0 1 ∷ row 34 9 10 1 0 0 2 ∷ row 10 13 14 0 1 0 1 ∷ row 32 9 14 2 0 0 4 ∷
    row 31 0 17 2 0 0 7 ∷ []) ∷
    expr_has "match a {__=>1}" (row 1 6 7 0 0 0 1 ∷ row 2 6 7 1 0 0 2 ∷ row 1 9 11 0 0 0 1 ∷ row 34 9 11 1 0 0 2 ∷ row 10 13 14 0 1 0 1 ∷ row 32 9 14 2 0 0 4 ∷
    row 31 0 15 2 0 0 7 ∷ []) ∷
    expr_has "match a {}" (row 1 6 7 0 0 0 1 ∷ row 2 6 7 1 0 0 2 ∷ row 31 0 10 1 0 0 3 ∷ []) ∷
    -- spans that begin or end with a child in parentheses
    expr_has "(a)+b" (row 1 1 2 0 0 0 1 ∷ row 2 1 2 1 0 0 2 ∷ row 1 4 5 0 0 0 1 ∷ row 2 4 5 1 0 0 2 ∷ row 20 1 5 2 0 9 5 ∷ []) ∷
    expr_has "(a)()" (row 1 1 2 0 0 0 1 ∷ row 2 1 2 1 0 0 2 ∷ row 23 1 5 1 0 0 3 ∷ []) ∷
    expr_has "(a)?" (row 1 1 2 0 0 0 1 ∷ row 2 1 2 1 0 0 2 ∷ row 25 1 4 1 0 0 3 ∷ []) ∷
    expr_has "return (a)" (row 1 8 9 0 0 0 1 ∷ row 2 8 9 1 0 0 2 ∷ row 27 0 9 1 0 1 3 ∷ []) ∷
    tree_has "const A: ( ) = 1;" (row 1 6 7 0 0 0 1 ∷ row 4 9 12 0 0 0 1 ∷ row 10 15 16 0 1 0 1 ∷ row 40 0 17 3 0 0 4 ∷ row 43 0 17 1 0 0 5 ∷ []) ∷
    -- what is no token is 4 wherever it stands
    tree_fails "fn f(){} $" 4 9 10 ∷
    expr_fails "\"x )" 4 0 1 ∷
    expr_fails "1+\"x" 4 2 3 ∷
    expr_fails "''" 4 0 1 ∷
    expr_fails "'' " 7 0 2 ∷
    expr_fails "'''" 7 0 2 ∷
    expr_fails "#" 4 0 1 ∷
    expr_fails "|" 4 0 1 ∷
    tree_fails " #!" 4 1 2 ∷
    -- numbers, strings and addresses that look odd
    expr_has "9223372036854775808f64" (row 11 0 22 0 0 10 1 ∷ []) ∷
    expr_fails "9223372036854775808" 7 0 19 ∷
    -- the range of the suffix, which the sign before a literal doesn't widen; floats have none, and a hex number has no suffix
    expr_has "-127i8" (row 10 1 6 0 127 1 1 ∷ row 22 0 6 1 0 0 2 ∷ []) ∷
    expr_fails "-128i8" 7 1 6 ∷
    expr_has "9223372036854775808u64" (row 10 0 22 0 9223372036854775808 8 1 ∷ []) ∷
    expr_has "300f32" (row 11 0 6 0 0 9 1 ∷ []) ∷
    expr_fails "0x8000000000000000" 7 0 18 ∷
    expr_has "'\\'' " (row 17 0 4 0 39 0 1 ∷ []) ∷
    expr_fails "\"a\\\nb\" " 7 0 6 ∷
    expr_fails "1." 11 2 2 ∷
    expr_has "1.e5" (row 10 0 1 0 1 0 1 ∷ row 1 2 4 0 0 0 1 ∷ row 24 0 4 2 0 0 3 ∷ []) ∷
    expr_fails "1.2.3" 6 4 5 ∷
    expr_has "1_" (row 10 0 2 0 1 0 1 ∷ []) ∷
    expr_has "_1" (row 1 0 2 0 0 0 1 ∷ row 2 0 2 1 0 0 2 ∷ []) ∷
    expr_fails "1e5" 7 0 3 ∷
    expr_fails "1e-5" 7 0 2 ∷
    expr_fails "0X1" 7 0 3 ∷
    expr_fails "0x1u8" 6 3 5 ∷
    expr_fails "1.2.3.x" 7 0 6 ∷
    expr_fails "{a:b:c}" 7 1 6 ∷
    tree_fails "const A:b::c=1;" 6 6 12 ∷
    expr_has "{a:b::1}" (row 15 1 7 0 2814797011746816 1 1 ∷ row 35 0 8 1 1 0 2 ∷ []) ∷
    -- a dotted end: digits behind each of three periods, behind a last group of digits only, and whatever its value says
    expr_fails "::1.2" 6 4 5 ∷
    expr_fails "::1.2.3." 6 4 7 ∷
    expr_fails "::a1.2.3.4" 6 5 8 ∷
    expr_fails "::.1.2.3" 6 3 6 ∷
    expr_fails ":1.2.3.4" 6 0 1 ∷
    expr_fails "::256.0.0.0" 7 0 11 ∷
    expr_fails "::12345.1.1.1" 7 0 13 ∷
    expr_fails "::01.2.3.4" 7 0 10 ∷
    expr_fails "a:1:1.2.3.4" 7 0 11 ∷
    -- six groups before it, or five at most beside a `::`
    expr_has "1:2:3:4:5::7.8.9.10" (row 15 0 19 0 281483566841860 1407375001520394 1 ∷ []) ∷
    expr_fails "1:2:3:4:5:6::7.8.9.10" 7 0 21 ∷
    expr_fails "1:2:3:4:5:7.8.9.10" 7 0 18 ∷
    -- nothing of it behind the fourth number
    expr_fails "::1.2.3.4.5" 6 10 11 ∷
    expr_fails "::1.2.3.4a" 6 9 10 ∷
    expr_has "::1.2.3.4.a" (row 15 0 9 0 0 16909060 1 ∷ row 1 10 11 0 0 0 1 ∷ row 24 0 11 2 0 0 3 ∷ []) ∷
    expr_fails "::1.2.3.4:5" 6 9 10 ∷
    -- statements
    expr_has "{if a {} (b)}" (row 1 4 5 0 0 0 1 ∷ row 2 4 5 1 0 0 2 ∷ row 35 6 8 0 0 0 1 ∷ row 28 1 8 2 0 0 4 ∷ row 1 10 11 0 0 0 1 ∷ row 2 10 11 1 0 0 2 ∷
    row 35 0 13 2 1 0 7 ∷ []) ∷
    expr_fails "{if a {} .b}" 6 9 10 ∷
    expr_fails "{if a {}?}" 6 8 9 ∷
    expr_fails "{a;;}" 6 3 4 ∷
    expr_fails "{if a {} ;;}" 6 10 11 ∷
    expr_has "{if a {};}" (row 1 4 5 0 0 0 1 ∷ row 2 4 5 1 0 0 2 ∷ row 35 6 8 0 0 0 1 ∷ row 28 1 8 2 0 0 4 ∷ row 35 0 10 1 0 0 5 ∷ []) ∷
    expr_has "match a {b => if c {} + 1}" (row 1 6 7 0 0 0 1 ∷ row 2 6 7 1 0 0 2 ∷ row 1 9 10 0 0 0 1 ∷ row 34 9 10 1 0 0 2 ∷ row 1 17 18 0 0 0 1 ∷ row 2 17 18 1 0 0 2 ∷
    row 35 19 21 0 0 0 1 ∷ row 28 14 21 2 0 0 4 ∷ row 10 24 25 0 1 0 1 ∷ row 20 14 25 2 0 9 6 ∷ row 32 9 25 2 0 0 9 ∷
    row 31 0 26 2 0 0 12 ∷ []) ∷
    expr_fails "{if: 1}" 6 3 4 ∷
    expr_fails "{pkg: 1}" 6 4 5 ∷
    expr_fails "{true: 1}" 6 5 6 ∷
    expr_fails "{let record = 1;}" 6 5 11 ∷
    -- signs that this language has not; comments
    expr_has "a--b" (row 1 0 1 0 0 0 1 ∷ row 2 0 1 1 0 0 2 ∷ row 1 3 4 0 0 0 1 ∷ row 2 3 4 1 0 0 2 ∷ row 22 2 4 1 0 0 3 ∷ row 20 0 4 2 0 10 6 ∷ []) ∷
    expr_fails "a**b" 6 2 3 ∷
    expr_fails "a/*b" 6 2 3 ∷
    expr_has "a//x\rb" (row 1 0 1 0 0 0 1 ∷ row 2 0 1 1 0 0 2 ∷ []) ∷
    -- kinds and details that no source above has: a bool, the two loops, both filters; each sign, each suffix
    expr_has "true" (row 12 0 4 0 1 0 1 ∷ []) ∷
    expr_has "false" (row 12 0 5 0 0 0 1 ∷ []) ∷
    expr_has "while a {}" (row 1 6 7 0 0 0 1 ∷ row 2 6 7 1 0 0 2 ∷ row 35 8 10 0 0 0 1 ∷ row 29 0 10 2 0 0 4 ∷ []) ∷
    expr_has "for a in b {}" (row 1 4 5 0 0 0 1 ∷ row 1 9 10 0 0 0 1 ∷ row 2 9 10 1 0 0 2 ∷ row 35 11 13 0 0 0 1 ∷ row 30 0 13 3 0 0 5 ∷ []) ∷
    tree_has "filter f() {}" (row 1 7 8 0 0 0 1 ∷ row 35 11 13 0 0 0 1 ∷ row 45 0 13 2 0 1 3 ∷ row 43 0 13 1 0 0 4 ∷ []) ∷
    tree_has "filtermap f() {}" (row 1 10 11 0 0 0 1 ∷ row 35 14 16 0 0 0 1 ∷ row 45 0 16 2 0 2 3 ∷ row 43 0 16 1 0 0 4 ∷ []) ∷
    expr_has "a||b" (row 1 0 1 0 0 0 1 ∷ row 2 0 1 1 0 0 2 ∷ row 1 3 4 0 0 0 1 ∷ row 2 3 4 1 0 0 2 ∷ row 20 0 4 2 0 1 5 ∷ []) ∷
    expr_has "a&&b" (row 1 0 1 0 0 0 1 ∷ row 2 0 1 1 0 0 2 ∷ row 1 3 4 0 0 0 1 ∷ row 2 3 4 1 0 0 2 ∷ row 20 0 4 2 0 2 5 ∷ []) ∷
    expr_has "a==b" (row 1 0 1 0 0 0 1 ∷ row 2 0 1 1 0 0 2 ∷ row 1 3 4 0 0 0 1 ∷ row 2 3 4 1 0 0 2 ∷ row 20 0 4 2 0 3 5 ∷ []) ∷
    expr_has "a!=b" (row 1 0 1 0 0 0 1 ∷ row 2 0 1 1 0 0 2 ∷ row 1 3 4 0 0 0 1 ∷ row 2 3 4 1 0 0 2 ∷ row 20 0 4 2 0 4 5 ∷ []) ∷
    expr_has "a<b" (row 1 0 1 0 0 0 1 ∷ row 2 0 1 1 0 0 2 ∷ row 1 2 3 0 0 0 1 ∷ row 2 2 3 1 0 0 2 ∷ row 20 0 3 2 0 5 5 ∷ []) ∷
    expr_has "a<=b" (row 1 0 1 0 0 0 1 ∷ row 2 0 1 1 0 0 2 ∷ row 1 3 4 0 0 0 1 ∷ row 2 3 4 1 0 0 2 ∷ row 20 0 4 2 0 6 5 ∷ []) ∷
    expr_has "a>b" (row 1 0 1 0 0 0 1 ∷ row 2 0 1 1 0 0 2 ∷ row 1 2 3 0 0 0 1 ∷ row 2 2 3 1 0 0 2 ∷ row 20 0 3 2 0 7 5 ∷ []) ∷
    expr_has "a>=b" (row 1 0 1 0 0 0 1 ∷ row 2 0 1 1 0 0 2 ∷ row 1 3 4 0 0 0 1 ∷ row 2 3 4 1 0 0 2 ∷ row 20 0 4 2 0 8 5 ∷ []) ∷
    expr_has "a/b" (row 1 0 1 0 0 0 1 ∷ row 2 0 1 1 0 0 2 ∷ row 1 2 3 0 0 0 1 ∷ row 2 2 3 1 0 0 2 ∷ row 20 0 3 2 0 12 5 ∷ []) ∷
    expr_has "a%b" (row 1 0 1 0 0 0 1 ∷ row 2 0 1 1 0 0 2 ∷ row 1 2 3 0 0 0 1 ∷ row 2 2 3 1 0 0 2 ∷ row 20 0 3 2 0 13 5 ∷ []) ∷
    expr_has "a-=b" (row 1 0 1 0 0 0 1 ∷ row 2 0 1 1 0 0 2 ∷ row 1 3 4 0 0 0 1 ∷ row 2 3 4 1 0 0 2 ∷ row 26 0 4 2 0 2 5 ∷ []) ∷
    expr_has "a/=b" (row 1 0 1 0 0 0 1 ∷ row 2 0 1 1 0 0 2 ∷ row 1 3 4 0 0 0 1 ∷ row 2 3 4 1 0 0 2 ∷ row 26 0 4 2 0 4 5 ∷ []) ∷
    expr_has "a%=b" (row 1 0 1 0 0 0 1 ∷ row 2 0 1 1 0 0 2 ∷ row 1 3 4 0 0 0 1 ∷ row 2 3 4 1 0 0 2 ∷ row 26 0 4 2 0 5 5 ∷ []) ∷
    expr_has "1i16" (row 10 0 4 0 1 2 1 ∷ []) ∷
    expr_has "1i32" (row 10 0 4 0 1 3 1 ∷ []) ∷
    expr_has "1i64" (row 10 0 4 0 1 4 1 ∷ []) ∷
    expr_has "1u8" (row 10 0 3 0 1 5 1 ∷ []) ∷
    expr_has "1u16" (row 10 0 4 0 1 6 1 ∷ []) ∷
    expr_has "1u32" (row 10 0 4 0 1 7 1 ∷ []) ∷
    expr_has "1.0" (row 11 0 3 0 0 0 1 ∷ []) ∷
    -- C-22: 6 at `test`, whatever stands behind it; what stands before it comes first; it stays a keyword
    tree_fails "test" 6 0 4 ∷
    old_fails "test" 11 4 4 ∷
    tree_fails "test $" 6 0 4 ∷
    tree_fails "$ test" 4 0 1 ∷
    tree_fails "fn f() {} test t {}" 6 10 14 ∷
    old_has "fn f() {} test t {}" (row 1 3 4 0 0 0 1 ∷ row 35 7 9 0 0 0 1 ∷ row 41 0 9 2 0 0 3 ∷ row 1 15 16 0 0 0 1 ∷ row 35 17 19 0 0 0 1 ∷ row 42 10 19 2 0 0 3 ∷ row 43 0 19 2 0 0 7 ∷ []) ∷
    tree_fails "fn test() {}" 6 3 7 ∷
    old_fails "fn test() {}" 6 3 7 ∷
    expr_fails "test" 6 0 4 ∷
    []
