-- Laws of the definitions that the contracts cite: Tags of the tags that have a recipe, Recipes of what each recipe gives, Rest of the rows that have none.
pub mod Tags
pub mod Recipes
pub mod Rest
