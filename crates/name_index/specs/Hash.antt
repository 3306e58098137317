-- The bucket of a name, and nothing is told of it but that equal names have equal buckets.
--     mixed h b     a hash with one byte more; the byte is added before the product, so that the last byte too moves the upper bits
--     hash_from      a hash with the bytes of a text
--     hash          that of a text
--     bucket_of      the bucket of a text among k
use Rattle.std.specs.Prelude.{ℕ, ◌+◌, ◌*◌, ◌/◌, ◌%◌, [], ◌∷◌}
use Rattle.text.specs.Text.{Text}

unfoldable pub mixed : ℕ → ℕ → ℕ
mixed h b = (h + b) * 2654435761 % 4294967296

unfoldable pub hash_from : ℕ → Text → ℕ
hash_from h [] = h
hash_from h (b ∷ s) = hash_from (mixed h b) s

unfoldable pub hash : Text → ℕ
hash s = hash_from 0 s

unfoldable pub bucket_of : ℕ → Text → ℕ
bucket_of k s = hash s * k / 4294967296
