-- The limits.
use Rattle.std.specs.Prelude.{ℕ}

-- S4.1: at most 4,096 records and 262,144 bytes in an image
abbrev pub most_records : ℕ
most_records = 4096

abbrev pub most_image : ℕ
most_image = 262144

-- S3.2, reason 1: 1,024 bytes in a path
abbrev pub most_path : ℕ
most_path = 1024

-- S2.5, reason 10: 64 paths in a batch
abbrev pub most_paths : ℕ
most_paths = 64

-- S4.4: 253 bytes in a host name
abbrev pub most_host : ℕ
most_host = 253

-- S4.3: 64 bytes in a handle or a name
abbrev pub most_text : ℕ
most_text = 64
