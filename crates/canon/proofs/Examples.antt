-- Prints, computed from sources.
use mathlib.Core.Path.{◌≡◌, refl}
use mathlib.Core.List.{List, []}
use mathlib.Core.Bool.{Bool, true, false}
use mathlib.Core.Option.{Option, none, some}
use Prim.Native.Nat.{ℕ}
use Prim.Native.String.{String}
use lib.ListN.{length}
use Rattle.chars.specs.Texts.{bytes}
use Rattle.grammar.specs.Answers.{Answer, accepted, refused}
use Rattle.grammar.specs.Compute.{answer}
use Rattle.answers.specs.Source.{source}
use Rattle.answers.proofs.Opened.{lexer, values, reader}
use Rattle.canon.specs.Trees.{grown}
use Rattle.canon.specs.Layout.{layouts, layout}
use Rattle.canon.specs.Text.{fill, spaced, printed}

abbrev print_of : List ℕ → Option Answer → List ℕ
print_of s none = []
print_of s (some (refused r)) = []
print_of s (some (accepted rs)) = printed s rs

abbrev prints : List ℕ → List ℕ
prints s = print_of s (answer (source s) true true (length s) 400 0)

-- the print of a source, and of its print
abbrev Case : String → String → Type 0
Case t u = (prints (bytes t) ≡ bytes u) × (prints (bytes u) ≡ bytes u)

case_0 : Case "const A:b=1;" "const A : b = 1 ;\n"
unfolding lexer values reader grown layouts layout fill spaced printed
case_0 = (refl, refl)

case_1 : Case "fn f(){a{x:1};}" "fn f ( ) {\na {\nx : 1 }\n;\n}\n"
unfolding lexer values reader grown layouts layout fill spaced printed
case_1 = (refl, refl)

case_2 : Case "fn f(){((if a {})+1)*2;}" "fn f ( ) {\n( if a {\n}\n+ 1 ) * 2 ;\n}\n"
unfolding lexer values reader grown layouts layout fill spaced printed
case_2 = (refl, refl)

case_3 : Case "fn f(){(if a {} . b);(a).b;((a).b).c;}" "fn f ( ) {\n( if a {\n}\n) . b ;\n( a ) . b ;\n( a ) . b . c ;\n}\n"
unfolding lexer values reader grown layouts layout fill spaced printed
case_3 = (refl, refl)

case_4 : Case "fn f(){if (x{}+y{}) {} while (return) {} for i in return (return) {} match (({x:1})) {}}" "fn f ( ) {\nif ( x {\n}\n) + ( y {\n}\n) {\n}\nwhile ( return ) {\n}\nfor i in return ( return ) {\n}\nmatch ( {\nx : 1 }\n) {\n}\n}\n"
unfolding lexer values reader grown layouts layout fill spaced printed
case_4 = (refl, refl)

case_5 : Case "fn f(){match a {b=>({}).x, c=>({}), d=>({x:1}), g(h,) if x{} =>{}, i => if c {}, _ =>1,}}" "fn f ( ) {\nmatch a {\nb => ( {\n}\n) . x , c => {\n}\nd => ( {\nx : 1 }\n) , g ( h ) if x {\n}\n=> {\n}\ni => if c {\n}\n, _ => 1 }\n}\n"
unfolding lexer values reader grown layouts layout fill spaced printed
case_5 = (refl, refl)

case_6 : Case "fn f(){if a {};if b {}else if c{}else{};}" "fn f ( ) {\nif a {\n}\nif b {\n}\nelse if c {\n}\nelse {\n}\n;\n}\n"
unfolding lexer values reader grown layouts layout fill spaced printed
case_6 = (refl, refl)

case_7 : Case "fn f(){(if a {});b}fn g(){a;b;}" "fn f ( ) {\nif a {\n}\nb }\nfn g ( ) {\na ;\nb ;\n}\n"
unfolding lexer values reader grown layouts layout fill spaced printed
case_7 = (refl, refl)

case_8 : Case "const A:b=-(1+2)-(3-4)-5*(6*7);" "const A : b = - ( 1 + 2 ) - ( 3 - 4 ) - 5 * ( 6 * 7 ) ;\n"
unfolding lexer values reader grown layouts layout fill spaced printed
case_8 = (refl, refl)

case_9 : Case "const A:b=((a==b)==c)||(a||b)&&(!(-(x).y));" "const A : b = ( a == b ) == c || ( a || b ) && ! - ( x ) . y ;\n"
unfolding lexer values reader grown layouts layout fill spaced printed
case_9 = (refl, refl)

case_10 : Case "import a.{b,c.{d}};import pkg.x;" "import a . {\nb , c . {\nd }\n}\n;\nimport pkg . x ;\n"
unfolding lexer values reader grown layouts layout fill spaced printed
case_10 = (refl, refl)

case_11 : Case "fn f(a:b.c[d,],e:{x:(),}?,)->!{let x:u8=(return);let y=(a=1);((x))=1;x+=(1);import q;}" "fn f ( a : b . c [ d ] , e : {\nx : ( ) }\n? ) -> ! {\nlet x : u8 = return ;\nlet y = a = 1 ;\nx = 1 ;\nx += 1 ;\nimport q ;\n}\n"
unfolding lexer values reader grown layouts layout fill spaced printed
case_11 = (refl, refl)

case_12 : Case "filtermap f(){accept}filter g(x:y[],){reject ({})}test t{}" "filtermap f ( ) {\naccept }\nfilter g ( x : y [ ] ) {\nreject {\n}\n}\ntest t {\n}\n"
unfolding lexer values reader grown layouts layout fill spaced printed
case_12 = (refl, refl)

case_13 : Case "const A:b=(f)((1),(b=1),)(2).x?.y+(return 1)+({}).z+{}.z;" "const A : b = f ( 1 , b = 1 ) ( 2 ) . x ? . y + ( return 1 ) + {\n}\n. z + {\n}\n. z ;\n"
unfolding lexer values reader grown layouts layout fill spaced printed
case_13 = (refl, refl)

case_14 : Case "fn f(){({}).a;({x:1}).a;a?;(return)+1;a=(b=c);}" "fn f ( ) {\n{\n}\n. a ;\n{\nx : 1 }\n. a ;\na ? ;\n( return ) + 1 ;\na = ( b = c ) ;\n}\n"
unfolding lexer values reader grown layouts layout fill spaced printed
case_14 = (refl, refl)

case_15 : Case "fn f(){match if a {} {b=>(if c {})+1,d=>({}+1)*2}}" "fn f ( ) {\nmatch if a {\n}\n{\nb => if c {\n}\n+ 1 , d => ( {\n}\n+ 1 ) * 2 }\n}\n"
unfolding lexer values reader grown layouts layout fill spaced printed
case_15 = (refl, refl)

case_16 : Case "const A:b=(1).c+\"x\\\"y\"+0x0F+1_0+::1+1.5f32;" "const A : b = 1 . c + \"x\\\"y\" + 0x0F + 1_0 + ::1 + 1.5f32 ;\n"
unfolding lexer values reader grown layouts layout fill spaced printed
case_16 = (refl, refl)

case_17 : Case "fn f(){if (return x{}) {} if (a=x{}) {} (a=1).b;if a {} (c).d;if a {} -b}" "fn f ( ) {\nif return ( x {\n}\n) {\n}\nif a = ( x {\n}\n) {\n}\n( a = 1 ) . b ;\nif a {\n}\n( c ) . d ;\nif a {\n}\n- b }\n"
unfolding lexer values reader grown layouts layout fill spaced printed
case_17 = (refl, refl)

case_18 : Case "fn f(){if (x{})+y{} {}}" "fn f ( ) {\nif ( x {\n}\n) + y {\n}\n{\n}\n}\n"
unfolding lexer values reader grown layouts layout fill spaced printed
case_18 = (refl, refl)

case_19 : Case "const A:b=f\"a {x} b\"+(f\"{ (1) }{{\").c;" "const A : b = f\"a {x} b\" + f\"{ (1) }{{\" . c ;\n"
unfolding lexer values reader grown layouts layout fill spaced printed
case_19 = (refl, refl)

case_20 : Case "fn f(){f\"{f\"{y}\"}\";if f\"\"==(x{}) {} match f\"z\" {_=>f\"\",}}" "fn f ( ) {\nf\"{f\"{y}\"}\" ;\nif f\"\" == ( x {\n}\n) {\n}\nmatch f\"z\" {\n_ => f\"\" }\n}\n"
unfolding lexer values reader grown layouts layout fill spaced printed
case_20 = (refl, refl)

case_21 : Case "test t{match a {b(c,_) if (d)=>(1),_ if {x:1}=>{},}}filter f(){accept (1)}" "test t {\nmatch a {\nb ( c , _ ) if d => 1 , _ if {\nx : 1 }\n=> {\n}\n}\n}\nfilter f ( ) {\naccept 1 }\n"
unfolding lexer values reader grown layouts layout fill spaced printed
case_21 = (refl, refl)

case_22 : Case "import super.a.{b.{c,d},std};" "import super . a . {\nb . {\nc , d }\n, std }\n;\n"
unfolding lexer values reader grown layouts layout fill spaced printed
case_22 = (refl, refl)
