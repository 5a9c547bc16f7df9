-- What single bytes mean in nginx's configuration syntax.
use Rattle.std.specs.Prelude.{ℕ, ◌+◌, Bool, ◌==◌, ◌&&◌, ◌||◌, not, List, [], ◌∷◌, if◌then◌else◌}

-- white space: space, tab, CR and LF
unfoldable pub is_blank : ℕ → Bool
is_blank b = b == 32 || b == 9 || b == 13 || b == 10

-- a double or a single quote
unfoldable pub is_quote : ℕ → Bool
is_quote b = b == 34 || b == 39

-- what may follow a closing quote: white space, `;`, `{` or `)`
unfoldable pub may_follow : ℕ → Bool
may_follow b = is_blank b || b == 59 || b == 123 || b == 41

-- the line of what follows a byte: an LF ends a line
unfoldable pub below : ℕ → ℕ → ℕ
below line b = if b == 10 then line + 1 else line

-- the value of a backslash and a byte: a quote, a backslash, tab, CR or LF, else the two bytes themselves
unfoldable pub unescaped : ℕ → List ℕ
unescaped b =
    if b == 34 || b == 39 || b == 92 then b ∷ []
    else if b == 116 then 9 ∷ []
    else if b == 114 then 13 ∷ []
    else if b == 110 then 10 ∷ []
    else 92 ∷ b ∷ []

-- A byte that ends a plain word: white space, `;`, or a `{` that belongs to no `$`.
unfoldable pub ends_plain : Bool → ℕ → Bool
ends_plain dollar b = is_blank b || b == 59 || (b == 123 && not dollar)
