mod FirstFields
