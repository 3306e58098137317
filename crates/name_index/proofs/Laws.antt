-- Laws of the definitions in specs/ and of those that they cite, those below before those above. The head of each file says what it holds.
pub mod Hash
pub mod Places
pub mod Answers
pub mod Buckets
pub mod Sorted
pub mod Named
