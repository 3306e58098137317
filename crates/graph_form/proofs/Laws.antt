-- Laws of the definitions in specs/ and of those that they cite, those below before those above. The head of each file says what it holds.
pub mod Rules
pub mod Count
pub mod Form
pub mod Named
