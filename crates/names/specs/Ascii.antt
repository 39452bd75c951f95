-- Characters by their names, as bytes (ascii(7)).
use Rattle.std.specs.Prelude.{ℕ}

abbrev pub tab : ℕ
tab = 9

abbrev pub line_feed : ℕ
line_feed = 10

abbrev pub carriage_return : ℕ
carriage_return = 13

abbrev pub space : ℕ
space = 32

abbrev pub exclamation_mark : ℕ
exclamation_mark = 33

abbrev pub quote : ℕ
quote = 34

abbrev pub number_sign : ℕ
number_sign = 35

abbrev pub dollar : ℕ
dollar = 36

abbrev pub open_parenthesis : ℕ
open_parenthesis = 40

abbrev pub close_parenthesis : ℕ
close_parenthesis = 41

abbrev pub asterisk : ℕ
asterisk = 42

abbrev pub plus : ℕ
plus = 43

abbrev pub comma : ℕ
comma = 44

abbrev pub dash : ℕ
dash = 45

abbrev pub dot : ℕ
dot = 46

abbrev pub slash : ℕ
slash = 47

abbrev pub digit_0 : ℕ
digit_0 = 48

abbrev pub colon : ℕ
colon = 58

abbrev pub less_than : ℕ
less_than = 60

abbrev pub equals : ℕ
equals = 61

abbrev pub greater_than : ℕ
greater_than = 62

abbrev pub question_mark : ℕ
question_mark = 63

abbrev pub at_sign : ℕ
at_sign = 64

abbrev pub open_bracket : ℕ
open_bracket = 91

abbrev pub backslash : ℕ
backslash = 92

abbrev pub close_bracket : ℕ
close_bracket = 93

abbrev pub caret : ℕ
caret = 94

abbrev pub underscore : ℕ
underscore = 95

abbrev pub letter_a : ℕ
letter_a = 97

abbrev pub letter_b : ℕ
letter_b = 98

abbrev pub letter_c : ℕ
letter_c = 99

abbrev pub letter_i : ℕ
letter_i = 105

abbrev pub letter_k : ℕ
letter_k = 107

abbrev pub letter_l : ℕ
letter_l = 108

abbrev pub letter_m : ℕ
letter_m = 109

abbrev pub letter_p : ℕ
letter_p = 112

abbrev pub letter_r : ℕ
letter_r = 114

abbrev pub letter_u : ℕ
letter_u = 117

abbrev pub letter_w : ℕ
letter_w = 119

abbrev pub letter_x : ℕ
letter_x = 120

abbrev pub open_brace : ℕ
open_brace = 123

abbrev pub close_brace : ℕ
close_brace = 125

abbrev pub tilde : ℕ
tilde = 126

abbrev pub delete : ℕ
delete = 127
