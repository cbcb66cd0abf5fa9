-- The signs of one byte and of two.
use Rattle.std.specs.Prelude.{ℕ, Option, Some, None, ◌==◌, ◌&&◌, if◌then◌else◌}
use Rattle.text_tokens.specs.declared.token.Sign.{Sign}
use Rattle.text_tokens.specs.declared.token.Sign.TheVariants.{Bar, Comma, Is, Equal, NotEqual, AtMost, AtLeast, Below, Above, Plus, Minus, Times, Over, Modulo, Open, Close}

abbrev pub one_byte_sign : ℕ → Option Sign
one_byte_sign b =
    if b == 124 then Some Bar
    else (if b == 44 then Some Comma
    else (if b == 61 then Some Is
    else (if b == 60 then Some Below
    else (if b == 62 then Some Above
    else (if b == 43 then Some Plus
    else (if b == 45 then Some Minus
    else (if b == 42 then Some Times
    else (if b == 37 then Some Modulo
    else (if b == 40 then Some Open
    else (if b == 41 then Some Close
    else None))))))))))

abbrev pub two_byte_sign : ℕ → ℕ → Option Sign
two_byte_sign a b =
    if b == 61 then
    (if a == 61 then Some Equal
    else (if a == 33 then Some NotEqual
    else (if a == 60 then Some AtMost
    else (if a == 62 then Some AtLeast
    else None))))
    else (if (a == 47) && (b == 47) then Some Over else None)
