-- For private functions: the numbers of bytes of the table as the code has them.
use Rattle.std.specs.Prelude.{Option, None, Some, ℕ}
use Rattle.messages.specs.Parameters.{Row, bytes_in}

-- the bytes of a request's parameters; none where the version does not know the command
abbrev pub asked : Option Row → Option ℕ
asked None = None
asked (Some r) = Some (bytes_in r.request)

-- the bytes of a response's parameters
abbrev pub told : Option Row → ℕ
told None = 0
told (Some r) = bytes_in r.response
